-- Laws of a numbered list of tests: what the number of the first that holds can be, and what it is of two lists in a row.
use Rattle.std.specs.Prelude.{◌≡◌, refl, ℕ, zero, suc, ◌<◌, Bool, true, false, not, cond, ◌&&◌, List, [], ◌∷◌, ◌++◌, T, ltb, eqb}
use Rattle.std.proofs.Common.{sym, ap, subst, ◌∙◌, arith, T_not, ltb→lt}
use Rattle.std.proofs.Math.Dec.{eqb_refl}
use Rattle.std.specs.Float.Ieee.Fits.{and_l, and_r}
use Rattle.definition.specs.Inputs.{Model, Offsets}
use Rattle.definition.specs.Refusals.{first_of, tests, refusal}
use Rattle.laws.specs.All.{AllOf}

-- every number of a list passes q: by computation (`tt`) of a list that is written out
abbrev pub numbers : (ℕ → Bool) → List (ℕ × Bool) → Bool
numbers q [] = true
numbers q (e ∷ es) = q e.0 && numbers q es

-- 0 is the number of no test: it stands for none
abbrev pub numbered : List (ℕ × Bool) → Bool
numbered es = numbers (ltb 0) es

-- the first one's number is 0 or one of the list's
pub first_passes : (q : ℕ → Bool) (es : List (ℕ × Bool)) → T (q 0) → T (numbers q es) → T (q (first_of es))
unfolding first_of
first_passes q [] z h = z
first_passes q (e ∷ es) z h = pick e.1 (and_l (q e.0) (numbers q es) h) (first_passes q es z (and_r (q e.0) (numbers q es) h))
  where
    pick : (t : Bool) → T (q e.0) → T (q (first_of es)) → T (q (cond t e.0 (first_of es)))
    pick true h g = h
    pick false h g = g

-- so it is none that no test has
pub no_number : (n : ℕ) (es : List (ℕ × Bool)) → T (not (eqb 0 n)) → T (numbers (λ k. not (eqb k n)) es) → first_of es ≡ n → ⊥
no_number n es z h e = T_not (eqb n n) (subst (λ (k : ℕ). T (not (eqb k n))) e (first_passes (λ k. not (eqb k n)) es z h)) (eqb_refl n)

-- where none holds, each fails
pub first_none : (es : List (ℕ × Bool)) → T (numbered es) → first_of es ≡ 0 → AllOf (λ e. e.1 ≡ false) es
unfolding first_of
first_none [] h e = tt
first_none (x ∷ es) h e =
    let r = pick x.1 (ltb→lt 0 x.0 (and_l (ltb 0 x.0) (numbered es) h)) e in
    (r.0, first_none es (and_r (ltb 0 x.0) (numbered es) h) r.1)
  where
    pick : (t : Bool) → 0 < x.0 → cond t x.0 (first_of es) ≡ 0 → (t ≡ false) × (first_of es ≡ 0)
    pick true h e = absurd (omega arith)
    pick false h e = (refl, e)

-- ---- two lists in a row

-- the first number, or the second where that is 0
abbrev pub or_else : ℕ → ℕ → ℕ
or_else zero j = j
or_else (suc k) j = suc k

pub joined : (a b : List (ℕ × Bool)) → T (numbered a) → first_of (a ++ b) ≡ or_else (first_of a) (first_of b)
unfolding first_of
joined [] b h = refl
joined (e ∷ a) b h =
    pick e.1 e.0 (ltb→lt 0 e.0 (and_l (ltb 0 e.0) (numbered a) h)) (joined a b (and_r (ltb 0 e.0) (numbered a) h))
  where
    pick : (t : Bool) (k : ℕ) → 0 < k → first_of (a ++ b) ≡ or_else (first_of a) (first_of b) → cond t k (first_of (a ++ b)) ≡ or_else (cond t k (first_of a)) (first_of b)
    pick true zero l ih = absurd (omega arith)
    pick true (suc k) l ih = refl
    pick false k l ih = ih

or_some : (k j : ℕ) → (k ≡ 0 → ⊥) → k ≡ or_else k j
or_some zero j h = absurd (h refl)
or_some (suc k) j h = refl

or_none : (k j : ℕ) → or_else k j ≡ 0 → (k ≡ 0) × (j ≡ 0)
or_none zero j e = (refl, e)
or_none (suc k) j e = absurd (omega arith)

module _ (a b : List (ℕ × Bool)) (h : T (numbered a)) where
  -- code that goes by the first list's number k: it stops there where k is not 0, and else goes on to the second
  pub stops : {k : ℕ} → k ≡ first_of a → (k ≡ 0 → ⊥) → k ≡ first_of (a ++ b)
  stops {k} e n = or_some k (first_of b) n ∙ ap (λ (i : ℕ). or_else i (first_of b)) e ∙ sym (joined a b h)

  pub goes_on : {k j : ℕ} → k ≡ first_of a → k ≡ 0 → j ≡ first_of b → j ≡ first_of (a ++ b)
  goes_on {k} {j} e z f = f ∙ ap (λ (i : ℕ). or_else i (first_of b)) (sym z ∙ e) ∙ sym (joined a b h)

  pub none_of_both : first_of (a ++ b) ≡ 0 → (first_of a ≡ 0) × (first_of b ≡ 0)
  none_of_both e = or_none (first_of a) (first_of b) (sym (joined a b h) ∙ e)

-- ---- the filter's call and the smoother's

-- no refusal before the run has number 12
pub not_twelve : (x : Model) (o : Offsets) (readings : ℕ) (infinity room : Bool) → refusal x o readings infinity room ≡ 12 → ⊥
unfolding refusal tests
not_twelve x o readings infinity room e = no_number 12 (tests x o readings infinity room) tt tt e
