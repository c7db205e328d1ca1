-- The lines of a text, over the list of its bytes. A newline (10) ends a line. A # (35) or a carriage return (13) ends what counts of it.
use Rattle.std.specs.Prelude.{◌≡◌, ℕ, suc, Bool, true, false, cond, List, [], ◌∷◌, ◌++◌, take, ◌==◌, ◌≢◌, refl}
use Rattle.std.proofs.Common.{arith}

-- whether a byte ends a line (true), or what counts of it (false)
abbrev pub is_end : Bool → ℕ → Bool
is_end newline b = cond newline (b == 10) (cond (b == 35) true (b == 13))

-- how many bytes stand before the first such end
unfoldable pub run_to : Bool → List ℕ → ℕ
run_to newline [] = 0
run_to newline (b ∷ bs) = cond (is_end newline b) 0 (suc (run_to newline bs))

-- a byte before the first line
unfoldable pub onto : ℕ → List (List ℕ) → List (List ℕ)
onto b [] = (b ∷ []) ∷ []
onto b (l ∷ ls) = (b ∷ l) ∷ ls

-- split at the newlines: one line more than there are newlines
unfoldable pub lines_of : List ℕ → List (List ℕ)
lines_of [] = [] ∷ []
lines_of (b ∷ bs) = cond (is_end true b) ([] ∷ lines_of bs) (onto b (lines_of bs))

-- what counts of a line
unfoldable pub content_of : List ℕ → List ℕ
content_of l = take (run_to false l) l

-- ---- that is a split: the lines with a newline between each two are the text
unfoldable pub after_lines : List (List ℕ) → List ℕ
after_lines [] = []
after_lines (l ∷ ls) = 10 ∷ (l ++ after_lines ls)

unfoldable pub joined : List (List ℕ) → List ℕ
joined [] = []
joined (l ∷ ls) = l ++ after_lines ls

pub joined-onto : (b : ℕ) (ls : List (List ℕ)) → joined (onto b ls) ≡ b ∷ joined ls
unfolding joined onto after_lines
joined-onto b [] = refl
joined-onto b (l ∷ ls) = refl

pub after_some : (ls : List (List ℕ)) → (ls ≢ []) → after_lines ls ≡ 10 ∷ joined ls
unfolding joined after_lines
after_some [] h = absurd (h refl)
after_some (l ∷ ls) h = refl

onto_some : (b : ℕ) (ls : List (List ℕ)) → onto b ls ≢ []
unfolding onto
onto_some b [] e = let z : ◌≡◌ {A = ℕ} 0 1 = cc in omega arith
onto_some b (l ∷ ls) e = let z : ◌≡◌ {A = ℕ} 0 1 = cc in omega arith

pub lines_some : (s : List ℕ) → lines_of s ≢ []
unfolding lines_of
lines_some [] e = let z : ◌≡◌ {A = ℕ} 0 1 = cc in omega arith
lines_some (b ∷ bs) e = go (is_end true b) e
  where
    go : (t : Bool) → cond t ([] ∷ lines_of bs) (onto b (lines_of bs)) ≢ []
    go true e = let z : ◌≡◌ {A = ℕ} 0 1 = cc in omega arith
    go false e = onto_some b (lines_of bs) e
