-- By whether anything was told before.
use mathlib.Core.Path.{◌≡◌, refl}
use Prim.Native.Nat.{ℕ, zero, suc}
use Rattle.definition.specs.Reports.{told_before}
use Rattle.reports.proofs.told.Goals as goal

stays : (k later : ℕ) → (k ≡ 0 → ⊥) → k ≡ told_before k later
unfolding told_before
stays zero later h = absurd (h refl)
stays (suc k) later h = refl

pub returns-then-before-eq0 : goal.returns-then-before-eq0
unfolding told_before
returns-then-before-eq0 c = rw c.if-before-eq0.true refl

pub returns-else-before-eq0 : goal.returns-else-before-eq0
returns-else-before-eq0 c = stays c.args.before c.args.later c.if-before-eq0.false
