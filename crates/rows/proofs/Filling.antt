-- A list that is filled from its start: by one place, by a run of places, by a period's eight numbers.
use Rattle.std.proofs.Common.{◌≡◌, ℕ, suc, ◌+◌, ◌*◌, ◌/◌, ◌%◌, ◌<◌, Bool, ◌&&◌, List, [], ◌∷◌, length, get_or, set, sym, ap, ◌∙◌, subst, ap₂, ⊎_elim, le_of_suc-le-suc, eq-or-lt_of_le, arith, length-set, get_or-set_other, get_or-set_same}
use lib.Ieee.{Float}
use lib.Seq.{sets}
use Rattle.definition.specs.Num.{0ᶠ}
use Rattle.rows.specs.Rows.{num_at, open_of, offset_open_of, rate_open_of, deviation_of, half_of, numbers_of, number_of}
use Rattle.rows.specs.Filled.{Filled}

module _ {A : Type 0} (d : A) (f : ℕ → A) (old : List A) where
  pub next : (l : List A) (k : ℕ) {x : A} → x ≡ f k → Filled d f k old l → Filled d f (suc k) old (set l k x)
  next l k {x} e w =
      let n = w.long in
      record {
        long = length-set l k x ∙ n;
        told = λ i h g. ⊎_elim
            (λ (s : i ≡ k). ap (λ (j : ℕ). get_or (set l k x) j d) s ∙ get_or-set_same l k x d (omega arith) ∙ e ∙ sym (ap f s))
            (λ (s : i < k). get_or-set_other l k i x d (λ q. omega arith) ∙ w.told i s g)
            (eq-or-lt_of_le (le_of_suc-le-suc h));
        kept = λ i h. get_or-set_other l k i x d (λ q. omega arith) ∙ w.kept i (omega arith);
      }

  pub run : (vs l : List A) (k : ℕ) → ((c : ℕ) → c < length vs → get_or vs c d ≡ f (k + c)) → Filled d f k old l → Filled d f (k + length vs) old (sets l k vs)
  run [] l k e w = let z : k ≡ k + 0 = omega arith in subst (λ (j : ℕ). Filled d f j old l) z w
  run (v ∷ vs) l k e w =
      let z : k + 0 ≡ k = omega arith in
      let s : suc k + length vs ≡ k + suc (length vs) = omega arith in
      subst (λ (j : ℕ). Filled d f j old (sets (set l k v) (suc k) vs)) s
      (run vs (set l k v) (suc k) (λ c h. let q : k + suc c ≡ suc k + c = omega arith in e (suc c) (omega arith) ∙ ap f q) (next l k (e 0 (omega arith) ∙ ap f z) w))

-- ---- four places, one after the other
pub half : (l : List Float) (from : ℕ) (means covs : List Float) (t : ℕ) (o r : Bool) {l₁ l₂ l₃ l₄ : List Float} {a b c d v w : Float}
    → a ≡ num_at means (3 * t) → v ≡ num_at covs (9 * t) → b ≡ deviation_of v o → c ≡ num_at means (3 * t + 1) → w ≡ num_at covs (9 * t + 4) → d ≡ deviation_of w r
    → l₁ ≡ set l (from + 0) a → l₂ ≡ set l₁ (from + 1) b → l₃ ≡ set l₂ (from + 2) c → l₄ ≡ set l₃ (from + 3) d → l₄ ≡ sets l from (half_of means covs t o r)
unfolding half_of
half l from means covs t o r ea ev eb ec ew ed e₁ e₂ e₃ e₄ =
    let s₀ : from + 0 ≡ from = omega arith in
    let s₁ : from + 1 ≡ suc from = omega arith in
    let s₂ : from + 2 ≡ suc (suc from) = omega arith in
    let s₃ : from + 3 ≡ suc (suc (suc from)) = omega arith in
    cc

-- ---- a period's eight
module _ (n : ℕ) (pinf : List Float) (kinds : List ℕ) (fm fc sm sc : List Float) where
  -- by the place in the list
  abbrev pub flat : ℕ → Float
  flat j = number_of n pinf kinds fm fc sm sc (j / 8) (j % 8)

  flat-at : (t c : ℕ) → c < 8 → flat (8 * t + c) ≡ number_of n pinf kinds fm fc sm sc t c
  flat-at t c h =
      let a : (8 * t + c) / 8 ≡ t = omega arith in
      let b : (8 * t + c) % 8 ≡ c = omega arith in
      ap₂ (number_of n pinf kinds fm fc sm sc) a b

  pub row : (old l : List Float) (t : ℕ) {l₁ l₂ : List Float} {o r left rate-left : Bool} → o ≡ offset_open_of pinf kinds t → r ≡ rate_open_of pinf (t + 1) → left ≡ open_of pinf n → rate-left ≡ rate_open_of pinf n
      → l₁ ≡ sets l (8 * t) (half_of fm fc t o r) → l₂ ≡ sets l₁ (8 * t + 4) (half_of sm sc t (o && left) rate-left) → Filled 0ᶠ flat (8 * t) old l → Filled 0ᶠ flat (8 * (t + 1)) old l₂
  unfolding numbers_of half_of
  row old l t {l₂ = l₂} eo er el erl e₁ e₂ w =
      let vs = numbers_of n pinf kinds fm fc sm sc t in
      let q : 8 * t + 4 ≡ suc (suc (suc (suc (8 * t)))) = omega arith in
      let s : sets l (8 * t) vs ≡ l₂ = cc in
      let z : 8 * t + 8 ≡ 8 * (t + 1) = omega arith in
      subst (λ (j : ℕ). Filled 0ᶠ flat j old l₂) z (subst (λ (m : List Float). Filled 0ᶠ flat (8 * t + 8) old m) s (run 0ᶠ flat old vs l (8 * t) (λ c h. sym (flat-at t c h)) w))
