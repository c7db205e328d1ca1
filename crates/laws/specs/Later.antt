-- A list of designs, or of transitions, counts from the run's first period. A stretch that begins after `done` periods may be lent the later part of the
-- list, and count from 0: so the passes need no index of their first period.
use Rattle.std.specs.Prelude.{◌≡◌, Bool, ◌⊎◌, take, Float}
use Rattle.std.proofs.Math.Path.{refl, ap, ap₂}
use Rattle.std.proofs.Common.{sym, ◌∙◌, mul-pos, arith, inl, inr, ⊎_elim, drop-drop}
use Prim.Native.Nat.{ℕ, zero, suc, ◌+◌, ◌-◌, ◌*◌, ◌/◌, ◌≤◌, ◌<◌, min}
use Rattle.std.proofs.Math.Nat.{add-zero, add-suc, add-mul, min-eq_left, min-eq_right, min-le_right, min-zero, mul-div_left}
use mathlib.Core.List.{List, [], ◌∷◌}
use Rattle.std.proofs.Math.ListN.{length, drop, length-drop}
use borrow.Author.Tests.{eq-eqb, ne_eqb}
use Rattle.definition.specs.Run.{scan}
use Rattle.definition.specs.Cov.{Cov, Decision, period_of, period, cov_run}
use Rattle.definition.specs.Mean.{Mean, Shift, mean_period_of, mean_period, mean_run}
use Rattle.definition.specs.Inputs.{part_from, system_from, frame_from}
use Rattle.laws.specs.Accepted.{Chosen, Constant, Listed}

-- the later part of a list, after `done` periods: all of it but the entries before the one that period `done` takes
unfoldable pub later_from : ℕ → ℕ → List Float → List Float
later_from k done zs = drop (min done (length zs / k - 1) * k) zs

-- ---- scans that count from another place

module _ {A B S : Type 0} (f g : ℕ → S → A → B × S) (d : ℕ) (same : (t : ℕ) (s : S) (x : A) → f (d + t) s x ≡ g t s x) where
  pub scan_later : (t : ℕ) (s : S) (xs : List A) → scan f (d + t) s xs ≡ scan g t s xs
  unfolding scan
  scan_later t s [] = refl
  scan_later t s (x ∷ xs) =
      let ih = scan_later (suc t) (g t s x).1 xs in
      let ih' : scan f (suc (d + t)) (g t s x).1 xs ≡ scan g (suc t) (g t s x).1 xs = rw add-suc at ih in
      rw (same t s x, ih') refl

-- ---- the entries of a list

together : (done t l : ℕ) → 0 < l → min done (l - 1) + min t (l - min done (l - 1) - 1) ≡ min (done + t) (l - 1)
together done t l h = by (order done (l - 1))
  where
    order : (a b : ℕ) → (a ≤ b) ⊎ (b ≤ a)
    order zero b = inl (omega arith)
    order (suc a) zero = inr (omega arith)
    order (suc a) (suc b) = ⊎_elim (λ (e : a ≤ b). inl (omega arith)) (λ (e : b ≤ a). inr (omega arith)) (order a b)

    by : (done ≤ l - 1) ⊎ (l - 1 ≤ done) → min done (l - 1) + min t (l - min done (l - 1) - 1) ≡ min (done + t) (l - 1)
    by (inl e) =
        let s : min done (l - 1) ≡ done = min-eq_left e in
        ⊎_elim (λ (g : t ≤ l - done - 1). let a : min t (l - done - 1) ≡ t = min-eq_left g in let b : min (done + t) (l - 1) ≡ done + t = min-eq_left (omega arith) in rw (s, a, b) refl)
        (λ (g : l - done - 1 ≤ t). let a : min t (l - done - 1) ≡ l - done - 1 = min-eq_right g in let b : min (done + t) (l - 1) ≡ l - 1 = min-eq_right (omega arith) in rw (s, a, b) (omega arith)) (order t (l - done - 1))
    by (inr e) =
        let s : min done (l - 1) ≡ l - 1 = min-eq_right e in
        let z : l - (l - 1) - 1 ≡ 0 = omega arith in
        let b : min (done + t) (l - 1) ≡ l - 1 = min-eq_right (omega arith) in
        rw (s, z, min-zero, b) (omega arith)

-- no list stays none
later_none : (k done : ℕ) (zs : List Float) → length zs ≡ 0 → length (later_from k done zs) ≡ 0
unfolding later_from
later_none k done zs e = simp length-drop (omega arith)

-- the length of the later part, and its count of entries
module _ (k done : ℕ) (zs : List Float) {once : ℕ} (w : Listed k once (length zs)) where
  abbrev count : ℕ
  count = length zs / k

  abbrev before : ℕ
  before = min done (count - 1)

  before-lt : before < count
  before-lt = omega (arith, min-le_right done (count - 1), w.some)

  later_long : length (later_from k done zs) ≡ (count - before) * k
  unfolding later_from
  later_long =
      let s : count - before + before ≡ count = omega (arith, before-lt) in
      length-drop (before * k) zs ∙ omega (arith, w.whole, add-mul (count - before) before k, ap (λ (i : ℕ). i * k) s)

  later_count : 0 < k → length (later_from k done zs) / k ≡ count - before
  later_count some = ap (λ (i : ℕ). i / k) later_long ∙ mul-div_left (count - before) some

-- the later part of a list is a list
later_listed : (k done : ℕ) (zs : List Float) {once : ℕ} → 0 < k → Listed k once (length zs) → Listed k once (length (later_from k done zs))
later_listed k done zs some w =
    let e = later_count k done zs w some in
    let low = before-lt k done zs w in
    record { none = w.none; whole = later_long k done zs w ∙ ap (λ (i : ℕ). i * k) (sym e); some = rw e (omega arith); most = rw e (omega (arith, w.most)) }

pub later_chosen : (k done : ℕ) (z zs : List Float) → 0 < k → Chosen k (length z) (length zs) → Chosen k (length z) (length (later_from k done zs))
later_chosen k done z zs some (inl c) = inl (record { one = c.one; none = later_none k done zs c.none })
later_chosen k done z zs some (inr w) = inr (later_listed k done zs some w)

listed_some : {k once list : ℕ} → 0 < k → Listed k once list → list ≡ 0 → ⊥
listed_some some w e = omega (arith, w.whole, mul-pos w.some some)

module _ (k done : ℕ) (once list : List Float) (some : 0 < k) where
  list_later : Listed k (length once) (length list) → (t : ℕ) → part_from k once list (done + t) ≡ part_from k once (later_from k done list) t
  unfolding part_from later_from
  list_later w t =
      let l = length list / k in
      let s = min done (l - 1) in
      rw (ne_eqb _ _ (listed_some some w), ne_eqb _ _ (listed_some some (later_listed k done list some w)), later_count k done list w some)
      (ap (take k) (sym (drop-drop (min t (l - s - 1) * k) (s * k) list ∙ ap (λ (i : ℕ). drop i list) (sym (add-mul s (min t (l - s - 1)) k) ∙ ap (λ (i : ℕ). i * k) (together done t l w.some)))))

  constant_later : Constant k (length once) (length list) → (t : ℕ) → part_from k once list (done + t) ≡ part_from k once (later_from k done list) t
  unfolding part_from later_from
  constant_later w t = rw (eq-eqb _ _ w.none, eq-eqb _ _ (later_none k done list w.none)) refl

  pub part_later : Chosen k (length once) (length list) → (t : ℕ) → part_from k once list (done + t) ≡ part_from k once (later_from k done list) t
  part_later w t = ⊎_elim (λ (c : Constant k (length once) (length list)). constant_later c t) (λ (c : Listed k (length once) (length list)). list_later c t) w

-- ---- both tracks, after `done` periods

module _ (p m done : ℕ) (z zs t ts : List Float) (pm0 : 0 < p * m) (mm0 : 0 < m * m) (designs : Chosen (p * m) (length z) (length zs)) (steps : Chosen (m * m) (length t) (length ts)) where
  abbrev zs' : List Float
  zs' = later_from (p * m) done zs

  abbrev ts' : List Float
  ts' = later_from (m * m) done ts

  pub cov_later : (h rqr : List Float) (c : Cov) (gs : List (List Bool)) → cov_run (system_from p m z zs h t ts rqr) done c gs ≡ cov_run (system_from p m z zs' h t ts' rqr) 0 c gs
  unfolding cov_run system_from
  cov_later h rqr c gs =
      rw add-zero at
      (scan_later (period (system_from p m z zs h t ts rqr)) (period (system_from p m z zs' h t ts' rqr)) done
      (λ i c g. ap₂ (λ (d s : List Float). period_of p m h s rqr d c g) (part_later (p * m) done z zs pm0 designs i) (part_later (m * m) done t ts mm0 steps i)) 0 c gs)

  pub mean_later : (x : Shift) (s : Mean) (es : List (List Decision × List Float)) → mean_run (frame_from p m z zs t ts) x done s es ≡ mean_run (frame_from p m z zs' t ts') x 0 s es
  unfolding mean_run frame_from
  mean_later x s es =
      rw add-zero at
      (scan_later (mean_period (frame_from p m z zs t ts) x) (mean_period (frame_from p m z zs' t ts') x) done
      (λ i s e. ap₂ (λ (d r : List Float). mean_period_of m r x.c x.d d s e) (part_later (p * m) done z zs pm0 designs i) (part_later (m * m) done t ts mm0 steps i)) 0 s es)
