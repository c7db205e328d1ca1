-- The lines with a newline between each two are the text.
use Rattle.std.specs.Prelude.{◌≡◌, ℕ, Bool, true, false, cond, List, [], ◌∷◌, ◌==◌, refl}
use Rattle.std.proofs.Common.{sym, ap, ◌∙◌, eqb-true}
use Rattle.sheet.specs.Lines.{onto, lines_of, after_lines, joined, after_some, lines_some, joined-onto}

pub split : (s : List ℕ) → joined (lines_of s) ≡ s
unfolding lines_of joined after_lines
split [] = refl
split (b ∷ bs) = go (split bs) (b == 10) refl
  where
    go : joined (lines_of bs) ≡ bs → (t : Bool) → (b == 10) ≡ t → joined (cond t ([] ∷ lines_of bs) (onto b (lines_of bs))) ≡ b ∷ bs
    go i true e = after_some (lines_of bs) (lines_some bs) ∙ ap (λ (l : List ℕ). 10 ∷ l) i ∙ ap (λ (x : ℕ). x ∷ bs) (sym (eqb-true b 10 e))
    go i false e = joined-onto b (lines_of bs) ∙ ap (λ (l : List ℕ). b ∷ l) i
