-- Past the refusals before the run, the run may begin, from a state that fits.
use mathlib.Core.Path.{◌≡◌}
use Prim.Native.Nat.{ℕ, ◌*◌, ◌≤◌}
use native.Mathlib.Nat.{mul-pos}
use native.Mathlib.Omega.{arith}
use mathlib.Core.Bool.{Bool, true, false, ◌||◌}
use mathlib.Core.List.{List}
use lib.ListN.{length}
use lib.Dec.{leb}
use lib.Ieee.{Float}
use borrow.Author.Tests.{leb-true}
use Rattle.definition.specs.Inputs.{Model, Offsets, noise}
use Rattle.definition.specs.Outcome.{CovParts, MeanParts, roomy}
use Rattle.definition.specs.Saved.{saved_need}
use Rattle.definition.specs.Stretch.{roomy_stretch}
use Rattle.laws.specs.Any.{both_true}
use Rattle.laws.specs.Accepted.{InRange, InputsFit, Roomy, room_of}
use Rattle.dense.specs.Views.{mat}
use Rattle.promise.specs.declared.Answer.{Answer}
use Rattle.carried.specs.State.{StateFits}
use Rattle.forward.specs.View.{FitOn, Tallies}
use Rattle.stretch.proofs.Stands.{Given}

-- ---- the room

either_true : (a b : Bool) → (a || b) ≡ true → a ≡ false → b ≡ true
either_true true b e h = absurd (let z : ◌≡◌ {A = ℕ} 0 1 = cc in omega arith)
either_true false b e h = e

pub room_to_save : (x : Model) (last : Bool) (w : CovParts) (w' : MeanParts) (save : List ℕ) → roomy_stretch x last w w' save ≡ true
    → Roomy x w w' × (last ≡ false → saved_need x.m ≤ length save)
unfolding roomy_stretch
room_to_save x last w w' save e =
    let b = both_true (roomy x w w') (last || leb (saved_need x.m) (length save)) e in
    (room_of x w w' b.0, λ h. leb-true (saved_need x.m) (length save) (either_true last (leb (saved_need x.m) (length save)) b.1 h))

-- ---- the run

module _ {x : Model} {o : Offsets} {y : ℕ} {w : CovParts} {w' : MeanParts} (sizes : InRange x.p x.m x.r x.n) (inputs : InputsFit x o) (readings : y ≡ x.n * x.p) (room : Roomy x w w') where
  pub both_given : Given x
  both_given = record { pm = mul-pos sizes.p0 sizes.m0; mm = mul-pos sizes.m0 sizes.m0; designs = inputs.design; steps = inputs.transition }

  pub may_begin : (done : ℕ) {rqr : List Float} {size : ℕ} {before : Answer} → mat x.m rqr ≡ noise x → StateFits x.m size → done ≤ 4096 → Tallies before → FitOn x o y rqr w w' size done before
  may_begin done q s e t = record { sizes = sizes; inputs = inputs; readings = readings; noise = q; room = room; state = s; early = e; tallies = t }
