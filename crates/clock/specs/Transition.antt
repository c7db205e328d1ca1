-- T of a sheet: what the next period has of the offset, of the rate and of the radio's error, row by row; and T of each period, where a season changes
-- it. docs/PANEL.md, "The model" and "Seasons".
use Rattle.std.specs.Prelude.{◌≡◌, ℕ, ◌+◌, ◌-◌, ◌*◌, ◌/◌, ◌%◌, ◌<◌, min, Bool, false, cond, List, [], ◌∷◌, length, take, drop, pos, ◌==◌, nat_le, Option, Some, None, refl, Float}
use Rattle.std.specs.Option.{option_map}
use Rattle.std.proofs.Common.{sym, ap, ◌∙◌, arith, get_or-take, get_or-drop, ext_get_or}
use Rattle.std.specs.Float.{binary64}
use Rattle.std.specs.Float.Ieee.{of_int, of_bits, div}
use Rattle.definition.specs.Num.{◌⊘◌, 0ᶠ, 1ᶠ, at}
use Rattle.definition.specs.Inputs.{part_from, transition_from}
use Rattle.sheet.specs.declared.answers.Season.{Season}
use Rattle.sheet.specs.declared.answers.Settings.{Settings}

abbrev pub double_of : ℕ → Float
double_of n = of_int binary64 (pos n)

abbrev pub 1000ᶠ : Float
1000ᶠ = of_bits binary64 0x408f400000000000

abbrev pub 1000000ᶠ : Float
1000000ᶠ = of_bits binary64 0x412e848000000000

-- what a rate of one unit adds to the offset in a period of so many seconds
abbrev pub step_of : ℕ → Float
step_of seconds = double_of seconds ⊘ 1000000ᶠ

-- how much of the rate is kept, by its thousandths. Not given: all of it
abbrev pub kept_of : Option ℕ → Float
kept_of (Some thousandths) = double_of thousandths ⊘ 1000ᶠ
kept_of None = 1ᶠ

-- T by so many thousandths
abbrev pub keeping_of : Settings → Option ℕ → List Float
keeping_of s thousandths =
    1ᶠ ∷ step_of s.period ∷ 0ᶠ
    ∷ 0ᶠ ∷ kept_of thousandths ∷ 0ᶠ
    ∷ 0ᶠ ∷ 0ᶠ ∷ 0ᶠ ∷ []

-- where no season changes it
abbrev pub transition_of : Settings → List Float
transition_of s = keeping_of s s.rate_keeps

-- whether the season has begun in period k, which counts from 0; its first period counts from 1
abbrev pub in_season : Option Season → ℕ → Bool
in_season (Some season) k = nat_le season.first (k + 1)
in_season None k = false

-- where it has
abbrev pub own_of : Settings → List Float
own_of s = keeping_of s (option_map (λ x. x.keeps) s.season)

-- T of period k: it leads from there to the next
unfoldable pub season_of : Settings → ℕ → List Float
season_of s k = cond (in_season s.season k) (own_of s) (transition_of s)

-- a list for the library, of all periods that a run may have: what the definition takes from it in period k is T of period k
pub record Seasons (s : Settings) (list : List Float) : Type 0 where
  pub long : length list ≡ 36864
  pub each : (k : ℕ) → k < 4096 → transition_from 3 [] list k ≡ season_of s k

-- ---- 1000 thousandths are the whole rate, to the bit
pub whole : kept_of (Some 1000) ≡ 1ᶠ
unfolding of_int of_bits div
whole = refl

-- ---- with no season T is the same in each period
pub never : (s : Settings) (k : ℕ) → s.season ≡ None → season_of s k ≡ transition_of s
unfolding season_of
never s k e = ap (λ (season : Option Season). cond (in_season season k) (own_of s) (transition_of s)) e

-- ---- what the definition takes are nine numbers, so that the list is fixed
pub part : (list : List Float) → length list ≡ 36864 → (k : ℕ) → k < 4096 → transition_from 3 [] list k ≡ take 9 (drop (9 * k) list)
unfolding part_from
part list l k h =
    let e : min k 4095 * 9 ≡ 9 * k = omega arith in
    ap (λ (n : ℕ). cond (n == 0) [] (take 9 (drop (min k (n / 9 - 1) * 9) list))) l ∙ ap (λ (n : ℕ). take 9 (drop n list)) e

pub entry : (s : Settings) (list : List Float) → Seasons s list → (i : ℕ) → i < 36864 → at list i ≡ at (season_of s (i / 9)) (i % 9)
entry s list w i h =
    let k = i / 9 in
    let e : 9 * k + i % 9 ≡ i = omega arith in
    let q = sym (part list w.long k (omega arith)) ∙ w.each k (omega arith) in
    ap (at list) (sym e) ∙ sym (get_or-drop (9 * k) list (i % 9) _) ∙ sym (get_or-take 9 (drop (9 * k) list) (i % 9) _ (omega arith)) ∙ ap (λ (x : List Float). at x (i % 9)) q

pub fixed : (s : Settings) (a b : List Float) → Seasons s a → Seasons s b → a ≡ b
fixed s a b v w =
    let l = v.long in
    ext_get_or _ a b (l ∙ sym w.long) (λ (i : ℕ) (h : i < length a). let g : i < 36864 = omega arith in entry s a v i g ∙ sym (entry s b w i g))
