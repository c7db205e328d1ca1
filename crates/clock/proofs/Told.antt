-- A list that is filled from its start, period by period. Assumes nothing.
use Rattle.std.proofs.Common.{◌≡◌, ℕ, ◌+◌, ◌-◌, ◌*◌, ◌<◌, Bool, true, false, cond, List, [], length, take, drop, sym, refl, ap, ◌∙◌, ⊎_elim, eq-or-lt_of_le, arith}
use Rattle.std.specs.List.{between}
use Rattle.std.proofs.lemmas.Slice.{between_is, between-put_mid, take-put_mid_below}
use borrow.Rule.Slice.PartMut.{put_mid}
use lib.Ieee.{Float}
use Rattle.definition.specs.Inputs.{transition_from}
use Rattle.sheet.specs.declared.answers.Settings.{Settings}
use Rattle.clock.specs.Transition.{own_of, transition_of, in_season, season_of, Seasons, part}

-- the first k periods have their T
abbrev pub Told : Settings → List Float → ℕ → Type 0
Told s list k = (j : ℕ) → j < k → between (9 * j) (9 * j + 9) list ≡ season_of s j

nine : (s : Settings) (k : ℕ) → length (season_of s k) ≡ 9
unfolding season_of
nine s k = go (in_season s.season k)
  where
    go : (b : Bool) → length (cond b (own_of s) (transition_of s)) ≡ 9
    go true = refl
    go false = refl

pub next : (s : Settings) (list : List Float) (k n : ℕ) {t : List Float} → length list ≡ 36864 → k < 4096 → t ≡ cond (in_season s.season k) (own_of s) (transition_of s) → Told s list k
    → Told s (put_mid (9 * k) n list t) (k + 1)
unfolding season_of
next s list k n {t} long h e w = λ (j : ℕ) (l : j < k + 1). ⊎_elim
    (λ (q : j ≡ k). ap (λ (i : ℕ). between (9 * i) (9 * i + 9) (put_mid (9 * k) n list t)) q
    ∙ between-put_mid (9 * k) n list t (9 * k + 9) (omega arith) (omega (arith, ap length e, nine s k))
    ∙ e
    ∙ ap (season_of s) (sym q))
    (λ (q : j < k). between_is (put_mid (9 * k) n list t) (9 * j) (9 * j + 9)
    ∙ ap (drop (9 * j)) (take-put_mid_below (9 * k) n list t (9 * j + 9) (omega arith) (omega arith))
    ∙ sym (between_is list (9 * j) (9 * j + 9))
    ∙ w j q)
    (eq-or-lt_of_le (omega arith))

pub all : (s : Settings) (list : List Float) → length list ≡ 36864 → Told s list 4096 → Seasons s list
all s list long w = record { long = long; each = each }
  where
    each : (k : ℕ) → k < 4096 → transition_from 3 [] list k ≡ season_of s k
    each k h =
        let n : 9 ≡ 9 * k + 9 - 9 * k = omega arith in
        part list long k h ∙ ap (λ (i : ℕ). take i (drop (9 * k) list)) n ∙ w k h
