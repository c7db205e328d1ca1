-- Laws of the closing line: words after words, and which words there are. Assumes nothing.
use mathlib.Core.Path.{◌≡◌, refl, sym, ap, ◌∙◌}
use mathlib.Core.List.{List, [], ◌∷◌, ◌++◌, append_assoc, append-nil}
use Prim.Native.Nat.{ℕ}
use native.Mathlib.Omega.{arith}
use lib.ListN.{take, length-append}
use borrow.Author.Tests.{eq-eqb, ne_eqb}
use Rattle.decimal.specs.Printed.{Added}
use Rattle.table.specs.Closing.{cov_first, mean_first, mean_next, part_of, line_of}

pub more : (a b e : ℕ) (s t old mid new : List ℕ) → Added a s old b mid → Added b t mid e new → Added a (s ++ t) old e new
more a b e s t old mid new p q = record {
  end = omega (arith, p.end, q.end, length-append s t);
  said = q.said ∙ ap (λ (l : List ℕ). l ++ t) p.said ∙ append_assoc (take a old) s t;
  long = q.long ∙ p.long;
}

pub none : (a : ℕ) (old : List ℕ) → Added a [] old a old
none a old = record { end = omega arith; said = sym (append-nil (take a old)); long = refl }

-- ---- the line, by which of the two ran off
module _ (cov mean : ℕ) (old : List ℕ) where
  pub neither : cov ≡ 0 → mean ≡ 0 → Added 0 (line_of cov mean) old 0 old
  unfolding line_of
  neither p q = simp (eq-eqb _ _ p, eq-eqb _ _ q) (none 0 old)

  pub mean_only : (b e : ℕ) (mid new : List ℕ) → cov ≡ 0 → (mean ≡ 0 → ⊥) → Added 0 (part_of mean_first mean) old b mid → Added b (10 ∷ []) mid e new → Added 0 (line_of cov mean) old e new
  unfolding line_of
  mean_only b e mid new p q x y = simp (eq-eqb _ _ p, ne_eqb _ _ q) (more 0 b e _ _ old mid new x y)

  pub cov_only : (b e : ℕ) (mid new : List ℕ) → (cov ≡ 0 → ⊥) → mean ≡ 0 → Added 0 (part_of cov_first cov) old b mid → Added b (10 ∷ []) mid e new → Added 0 (line_of cov mean) old e new
  unfolding line_of
  cov_only b e mid new p q x y = simp (ne_eqb _ _ p, eq-eqb _ _ q) (more 0 b e _ _ old mid new x y)

  pub both : (a b e : ℕ) (one two new : List ℕ) → (cov ≡ 0 → ⊥) → (mean ≡ 0 → ⊥) → Added 0 (part_of cov_first cov) old a one → Added a (part_of mean_next mean) one b two → Added b (10 ∷ []) two e new
      → Added 0 (line_of cov mean) old e new
  unfolding line_of
  both a b e one two new p q x y z = simp (ne_eqb _ _ p, ne_eqb _ _ q) (more 0 b e _ _ old two new (more 0 a b _ _ old one two x y) z)
