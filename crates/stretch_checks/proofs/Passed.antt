-- What is known of where a stretch goes on from: the periods done before; and past refusal 15 the length of its bytes, and that its tallies are small.
use mathlib.Core.Path.{◌≡◌, refl, sym, ap, ◌∙◌}
use Prim.Native.Nat.{ℕ, ◌+◌, ◌*◌, ◌≤◌}
use native.Mathlib.Nat.{mul-le-mul}
use native.Mathlib.Omega.{arith}
use mathlib.Core.Bool.{Bool, true, false, not, cond}
use mathlib.Core.List.{List}
use lib.ListN.{length}
use lib.Dec.{eqb}
use Rattle.definition.specs.Inputs.{Model}
use Rattle.definition.specs.Carried.{Past, begun_past}
use Rattle.definition.specs.Saved.{saved_need, bad_saved, widths, numbers_in, done_in, loaded_past}
use Rattle.definition.specs.Stretch.{past_in, bad_from}
use Rattle.laws.specs.Accepted.{InRange}
use Rattle.laws.specs.SavedBack.{loaded, not_bad}
use Rattle.laws.specs.Sizes.{square_le}

-- a state of 264 numbers has room for every m
pub state_fits : {m size : ℕ} → m ≤ 8 → size ≡ 264 → m + m * m + m * m + m * m + m * m ≤ size
state_fits {m} h e = omega (arith, square_le m h)

-- the periods done before
pub done_is : (x : Model) (begins : Bool) (saved : List ℕ) → cond begins 0 (done_in (numbers_in (widths x.m) saved)) ≡ (past_in x (record { begins = begins; saved = saved })).done
unfolding past_in begun_past loaded_past
done_is x true saved = refl
done_is x false saved = refl

-- past refusal 15: the bytes have their length, and the tallies are small
pub long_enough : (x : Model) (begins : Bool) (saved : List ℕ) → bad_from x (record { begins = begins; saved = saved }) ≡ false → begins ≡ false → length saved ≡ saved_need x.m
unfolding bad_from
long_enough x begins saved e h = (not_bad x.p x.m x.r x.n saved (sym (ap (λ (b : Bool). cond b (not (eqb (length saved) 0)) (bad_saved x.p x.m x.r x.n saved)) h) ∙ e)).long

pub record Few (s : Past) (n : ℕ) : Type 0 where
  pub early : s.done + n ≤ 4096
  pub diffuse : s.counts.d_diffuse ≤ 4096
  pub heard : s.counts.heard ≤ 65536
  pub news : s.counts.news ≤ 65536

pub few : (x : Model) (begins : Bool) (saved : List ℕ) → InRange x.p x.m x.r x.n → bad_from x (record { begins = begins; saved = saved }) ≡ false → Few (past_in x (record { begins = begins; saved = saved })) x.n
unfolding bad_from past_in begun_past loaded_past
few x true saved i e = record { early = omega (arith, i.n4096); diffuse = omega arith; heard = omega arith; news = omega arith }
few x false saved i e =
    let g = not_bad x.p x.m x.r x.n saved e in
    let l = (loaded x.m saved).past in
    let d : l.done ≤ 4096 = omega (arith, g.sizes.early) in
    let h : l.done * x.p ≤ 4096 * 8 = mul-le-mul d i.p8 in
    record { early = g.sizes.early; diffuse = omega (arith, g.tallies.d_diffuse); heard = omega (arith, g.tallies.heard); news = omega (arith, g.tallies.heard, g.tallies.news) }
