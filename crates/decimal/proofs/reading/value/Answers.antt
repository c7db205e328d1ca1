-- A turn reads one digit more, and the number still fits.
use Rattle.std.proofs.Common.{ℕ, ◌+◌, ◌*◌, ◌≤◌, drop, sym, ap, ◌∙◌, arith}
use Rattle.decimal.specs.Reading.{value_from}
use Rattle.decimal.proofs.Numbers.{value_step, value_grows, value_small, at_end}
use Rattle.decimal.proofs.reading.value.Goals as goal

pub overflow_mul-n : goal.overflow_mul-n
overflow_mul-n c = let h = value_small c.loop-b.n c.loop-b.b-index c.loop-b.invariant.2 (omega (arith, c.requires)) in omega arith

pub overflow_add-n : goal.overflow_add-n
overflow_add-n c = let h = value_small c.loop-b.n c.loop-b.b-index c.loop-b.invariant.2 (omega (arith, c.requires)) in omega arith

pub loop-b-preserved : goal.loop-b-preserved
loop-b-preserved c =
    let w = c.loop-b in
    let s = c.args.s.now in
    let f = c.type_inv.s w.b-index in
    let d : c.from.result ≤ 207 = omega arith in (
      omega arith,
      ap (λ (d : ℕ). value_from (w.n * 10 + d) (drop (w.b-index + 1) s)) (c.from.ensures ∙ c.saturating_sub.ensures) ∙ sym (value_step s w.n w.b-index c.loop-b-test.true) ∙ w.invariant.1,
      value_grows w.n c.from.result w.b-index w.invariant.2 d,
    )

pub returns : goal.returns
unfolding value_from
returns c = let w = c.loop-b in sym (ap (value_from w.n) (at_end c.args.s.now w.b-index (omega arith))) ∙ w.invariant.1
