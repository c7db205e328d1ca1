-- The offset's bound by the tests that the code makes.
use Rattle.std.proofs.Common.{◌≡◌, ℕ, zero, suc, ◌+◌, ◌*◌, Bool, true, false, not, ◌&&◌, eqb, List, sym, refl, ap, ◌∙◌, ne_eqb, arith}
use mathlib.Core.Bool.{and-false}
use denote.Enum.Bare.{sameb}
use lib.Ieee.{Float, ne}
use Rattle.definition.specs.Num.{0ᶠ}
use Rattle.rows.specs.declared.Check.{Check}
use Rattle.rows.specs.declared.Check.TheVariants.{FirstNews}
use Rattle.rows.specs.contracts.Check.{the_type}
use Rattle.rows.specs.Checks.{check_of}
use Rattle.rows.specs.Rows.{byte_at, num_at, open_of, offset_open_of}

by_kind : (kind : ℕ) → sameb the_type (check_of kind) FirstNews ≡ eqb kind 2
by_kind zero = refl
by_kind (suc zero) = refl
by_kind (suc (suc zero)) = refl
by_kind (suc (suc (suc zero))) = refl
by_kind (suc (suc (suc (suc zero)))) = refl
by_kind (suc (suc (suc (suc (suc kind))))) = sym (ne_eqb _ 2 (λ e. absurd (omega (arith, e))))

pub is_news : (kind : ℕ) {check : Check} {b : Bool} → b ≡ sameb the_type check FirstNews → check ≡ check_of kind → b ≡ eqb kind 2
is_news kind e f = e ∙ ap (λ (c : Check). sameb the_type c FirstNews) f ∙ by_kind kind

module _ (pinf : List Float) (kinds : List ℕ) (t : ℕ) where
  pub first_news_lem : {b : Bool} → b ≡ eqb (byte_at kinds (2 * t)) 2 → b ≡ true → false ≡ offset_open_of pinf kinds t
  unfolding offset_open_of
  first_news_lem e h = rw (sym e ∙ h) refl

  pub second_news : {b : Bool} → b ≡ eqb (byte_at kinds (2 * t + 1)) 2 → b ≡ true → false ≡ offset_open_of pinf kinds t
  unfolding offset_open_of
  second_news e h = rw (sym e ∙ h) (sym (and-false (not (eqb (byte_at kinds (2 * t)) 2))))

  pub no_news : {a b o : Bool} {x : Float} → a ≡ eqb (byte_at kinds (2 * t)) 2 → a ≡ false → b ≡ eqb (byte_at kinds (2 * t + 1)) 2 → b ≡ false → o ≡ open_of pinf t → x ≡ num_at pinf (9 * t)
      → (o && ne x 0ᶠ) ≡ offset_open_of pinf kinds t
  unfolding offset_open_of ne
  no_news e h e' h' p q = simp (sym e ∙ h, sym e' ∙ h', p, q)
