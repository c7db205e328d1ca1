-- What a call past refusal 2 knows of its designs and of its transitions, and how long the period's one then is.
use Rattle.std.specs.Prelude.{◌≡◌, refl, List, Bool, true, false, cond, ℕ, suc, ◌+◌, ◌-◌, ◌*◌, ◌/◌, ◌≤◌, ◌<◌, min, length, take, drop, eqb, Float}
use Rattle.std.proofs.Common.{ap, ⊎_elim, arith, mul-le-mul_right, suc-mul, length-drop, length-take-le, eqb-true}
use Rattle.std.proofs.Math.Nat.{zero-div, min-le_right}
use Rattle.std.proofs.lemmas.Bool.{eqb-false}
use Rattle.definition.specs.Inputs.{part_from}
use Rattle.laws.specs.Accepted.{Chosen, Constant, Listed}
use Rattle.dense.specs.Views.{mat}

-- the constant one or the list, by their lengths, each of p by m numbers: of the designs; and with m for p, of the transitions
pub record PartFits (p m once list : ℕ) : Type 0 where
  pub p0 : 0 < p
  pub p8 : p ≤ 8
  pub m0 : 0 < m
  pub m8 : m ≤ 8
  pub chosen : Chosen (p * m) once list

-- a list of so many numbers has entries, and is whole
pub record Whole (k list : ℕ) : Type 0 where
  pub some : 0 < list / k
  pub whole : list ≡ list / k * k

pub whole_list : {k once list : ℕ} → Chosen k once list → (list ≡ 0 → ⊥) → Whole k list
whole_list {k} {once} {list} f h =
    ⊎_elim (λ (w : Constant k once list). absurd (h w.none)) (λ (w : Listed k once list). record { some = w.some; whole = w.whole }) f

-- entry i of a list lies within it
pub entry_in : {k list : ℕ} (i : ℕ) → Whole k list → i < list / k → i * k + k ≤ list
entry_in {k} {list} i s h = omega (arith, suc-mul i k, mul-le-mul_right {m = suc i} {n = list / k} k h, s.whole)

-- the entry of period t does
pub entry_of : {k list : ℕ} (t : ℕ) → Whole k list → min t (list / k - 1) * k + k ≤ list
entry_of {k} {list} t s = entry_in (min t (list / k - 1)) s (omega (arith, min-le_right t (list / k - 1), s.some))

-- without a list the constant one has its numbers; with one it has none
pub constant : {k once list : ℕ} → Chosen k once list → list ≡ 0 → once ≡ k
constant {k} {once} {list} f e =
    ⊎_elim (λ (w : Constant k once list). w.one) (λ (w : Listed k once list). absurd (omega (arith, w.some, ap (λ (i : ℕ). i / k) e, zero-div k))) f

pub at_most_one : {k once list : ℕ} → Chosen k once list → once ≤ k
at_most_one {k} {once} {list} f = ⊎_elim (λ (w : Constant k once list). omega (arith, w.one)) (λ (w : Listed k once list). omega (arith, w.none)) f

-- the period's one has p m numbers
pub length_part : {k : ℕ} (once list : List Float) (t : ℕ) → Chosen k (length once) (length list) → length (part_from k once list t) ≡ k
unfolding part_from
length_part {k} once list t f = by_test (eqb (length list) 0) refl
  where
    by_test : (b : Bool) → eqb (length list) 0 ≡ b → length (cond b once (take k (drop (min t (length list / k - 1) * k) list))) ≡ k
    by_test true e = constant f (eqb-true (length list) 0 e)
    by_test false e =
        let h = entry_of t (whole_list f (eqb-false (length list) 0 e)) in
        length-take-le k (drop (min t (length list / k - 1) * k) list) (simp length-drop (omega arith))

-- what stands in an array for T before each period: the constant one, where that is given
abbrev pub Stands : ℕ → List Float → List Float → List Float → Type 0
Stands m once list a = length list ≡ 0 → mat m a ≡ once
