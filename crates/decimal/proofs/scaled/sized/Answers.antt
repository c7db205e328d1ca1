-- By the tests.
use Rattle.std.proofs.Common.{◌≡◌, Bool, true, false, not, cond, refl}
use borrow.Author.Tests.{lt-ltb, le-ltb}
use Rattle.decimal.specs.Scaled.{sized_of}
use Rattle.decimal.proofs.scaled.sized.Goals as goal

at_true : (b : Bool) → cond b false true ≡ not b
at_true true = refl
at_true false = refl

at_false : (b : Bool) → cond b false false ≡ false
at_false true = refl
at_false false = refl

pub returns-then-minus : goal.returns-then-minus
unfolding sized_of
returns-then-minus c = simp (lt-ltb _ _ c.if-q-lt-TEN_18.true, c.if-minus.true, at_true)

pub returns-else-minus : goal.returns-else-minus
unfolding sized_of
returns-else-minus c = simp (lt-ltb _ _ c.if-q-lt-TEN_18.true, c.if-minus.false, at_false)

pub returns : goal.returns
unfolding sized_of
returns c = simp (le-ltb _ _ c.if-q-lt-TEN_18.false)
