-- The count that is read, compared.
use mathlib.Core.Path.{ap}
use mathlib.Core.Bool.{not}
use Prim.Native.Nat.{ℕ}
use lib.Dec.{eqb}
use Rattle.saved.proofs.miscounted.Goals as goal

pub returns : goal.returns
returns c = ap (λ (k : ℕ). not (eqb k c.args.w)) c.four.ensures
