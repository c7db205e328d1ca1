-- One number more is tested and copied; at the end all are.
use mathlib.Core.Path.{refl, sym, ap, ◌∙◌}
use Prim.Native.Nat.{◌<◌}
use native.Mathlib.Omega.{arith}
use lib.ListN.{length, length-set}
use lib.Seq.{paste-zero}
use lib.Ieee.{nan}
use Rattle.definition.specs.Saved.{float, other_nan}
use Rattle.laws.specs.Any as any
use Rattle.laws.specs.ReadBack.{get_d_map_in}
use Rattle.saved.specs.Places.{numbers_at}
use Rattle.saved.proofs.Put.{copied, copy_next}
use Rattle.saved.proofs.Rows.{row-at, row_length}
use Rattle.saved.proofs.Loads.{floats_at, floats_length}
use Rattle.saved.proofs.load_floats.Goals as goal

pub loop-i-init : goal.loop-i-init
loop-i-init c =
    let a = c.args in
    (omega arith, refl, any.of_none other_nan (numbers_at a.k a.at a.saved.now), paste-zero a.state.now a.to (floats_at a.k a.at a.saved.now))

pub loop-i-preserved : goal.loop-i-preserved
loop-i-preserved c =
    let w = c.loop-i in
    let a = c.args in
    let bs = a.saved.now in
    let ns = numbers_at a.k a.at bs in
    let l = floats_at a.k a.at bs in
    let g : w.i < length ns = omega (arith, row_length a.k a.at bs) in
    let h : w.i < length l = omega (arith, floats_length a.k a.at bs) in
    let e = c.eight-w.ensures ∙ sym (row-at a.k a.at w.i bs (omega arith)) in
    let f = get_d_map_in float ns w.i 0 nan g in (
      omega arith,
      simp length-set w.invariant.1,
      any.of_next other_nan ns w.i 0 w.found _ g w.invariant.2 (c.other_nan-found.ensures ∙ ap other_nan e),
      copy_next a.state.now w.state l a.to w.i _ nan (omega arith) h w.invariant.3 (c.double.ensures ∙ ap float e ∙ sym f),
    )

pub returns : goal.returns
returns c =
    let w = c.loop-i in
    let a = c.args in
    let bs = a.saved.now in
    let long = row_length a.k a.at bs in (
      any.of_end other_nan (numbers_at a.k a.at bs) {k = w.i} w.invariant.2 (omega (arith, long)) (omega (arith, long)),
      w.invariant.3 ∙ copied a.state.now (floats_at a.k a.at bs) a.to a.k w.i (floats_length a.k a.at bs) (omega arith),
    )
