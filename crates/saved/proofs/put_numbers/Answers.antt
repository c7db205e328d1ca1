-- By their numbers, which are they themselves.
use mathlib.Core.Path.{◌≡◌, refl, ap, ◌∙◌}
use Prim.Native.Nat.{ℕ}
use mathlib.Core.List.{List, [], ◌∷◌, map}
use Rattle.std.proofs.Common.{rules}
use Rattle.definition.specs.Saved.{section}
use Rattle.saved.specs.Places.{put_at}
use Rattle.saved.proofs.put_numbers.Goals as goal

same : (l : List ℕ) → map (λ k. k) l ≡ l
same [] = refl
same (x ∷ l) = ap (λ (z : List ℕ). x ∷ z) (same l)

pub returns : goal.returns
returns c =
    let a = c.args in
    c.put_section.ensures (λ k. k) (λ v k p. search rules) ∙ ap (λ (l : List ℕ). put_at a.at (section l) a.out.now) (same a.x.now)
