-- What is loaded, part by part: the state's floats, and with the tallies what is carried.
use mathlib.Core.Path.{◌≡◌, refl, sym, ap, ◌∙◌}
use Prim.Native.Nat.{ℕ, ◌+◌, ◌*◌, ◌≤◌}
use native.Mathlib.Omega.{arith}
use mathlib.Core.List.{List, ◌++◌, map, append_assoc}
use lib.ListN.{length, take, drop, length-map}
use lib.Seq.{take_at, drop_at, drop-drop}
use lib.Ieee.{Float}
use Rattle.definition.specs.Saved.{float, widths, numbers_in, loaded_past, loaded_mean}
use Rattle.laws.specs.SavedBack.{loaded}
use Rattle.carried.specs.declared.Tallies.{Tallies}
use Rattle.saved.specs.Places.{numbers_at, put_at, Starts}
use Rattle.saved.specs.Loaded.{carried_of, Parts, LoadedState, LoadedTallies}
use Rattle.saved.proofs.Put.{Put, put_first, put_next, put_all}
use Rattle.saved.proofs.Rows as rows

module _ (m q : ℕ) (a b c d e rest : List Float) (la : length a ≡ m) (lb : length b ≡ q) (lc : length c ≡ q) (ld : length d ≡ q) (le : length e ≡ q) (after : List Float) (is : after ≡ a ++ b ++ c ++ d ++ e ++ rest) where
  flat : after ≡ a ++ (b ++ (c ++ (d ++ (e ++ rest))))
  flat = is ∙ simp append_assoc

  past1 : drop m after ≡ b ++ (c ++ (d ++ (e ++ rest)))
  past1 = ap (drop m) flat ∙ drop_at a _ m la

  past2 : drop (m + q) after ≡ c ++ (d ++ (e ++ rest))
  past2 = sym (drop-drop q m after) ∙ ap (drop q) past1 ∙ drop_at b _ q lb

  past3 : drop (m + q + q) after ≡ d ++ (e ++ rest)
  past3 = sym (drop-drop q (m + q) after) ∙ ap (drop q) past2 ∙ drop_at c _ q lc

  past4 : drop (m + q + q + q) after ≡ e ++ rest
  past4 = sym (drop-drop q (m + q + q) after) ∙ ap (drop q) past3 ∙ drop_at d _ q ld

  pub parts : Parts m q a b c d e after
  parts =
      record {
        mean = ap (take m) flat ∙ take_at a _ m la;
        star = ap (take q) past1 ∙ take_at b _ q lb;
        pinf = ap (take q) past2 ∙ take_at c _ q lc;
        root = ap (take q) past3 ∙ take_at d _ q ld;
        unres = ap (take q) past4 ∙ take_at e _ q le;
      }

-- the floats of a row
abbrev pub floats_at : ℕ → ℕ → List ℕ → List Float
floats_at k at bs = map float (numbers_at k at bs)

pub floats_length : (k at : ℕ) (bs : List ℕ) → length (floats_at k at bs) ≡ k
floats_length k at bs = length-map (numbers_at k at bs) float ∙ rows.row_length k at bs

module _ {m star pinf root unres loglik tallies end : ℕ} (s : Starts m star pinf root unres loglik tallies end) (bs : List ℕ) where
  pub loads : (s0 s1 s2 s3 s4 s5 : List Float) → m + m * m + m * m + m * m + m * m ≤ length s0 → s1 ≡ put_at 0 (floats_at m 40 bs) s0 → s2 ≡ put_at m (floats_at (m * m) (star + 4) bs) s1 → s3 ≡ put_at (m + m * m) (floats_at (m * m) (pinf + 4) bs) s2 → s4 ≡ put_at (m + m * m + m * m) (floats_at (m * m) (root + 4) bs) s3 → s5 ≡ put_at (m + m * m + m * m + m * m) (floats_at (m * m) (unres + 4) bs) s4
      → LoadedState m bs s5
  loads s0 s1 s2 s3 s4 s5 room e1 e2 e3 e4 e5 =
      let q = m * m in
      let a = floats_at m 40 bs in
      let b = floats_at q (star + 4) bs in
      let c = floats_at q (pinf + 4) bs in
      let d = floats_at q (root + 4) bs in
      let e = floats_at q (unres + 4) bs in
      let la = floats_length m 40 bs in
      let lb = floats_length q (star + 4) bs in
      let lc = floats_length q (pinf + 4) bs in
      let ld = floats_length q (root + 4) bs in
      let le = floats_length q (unres + 4) bs in
      let u1 : Put 0 m a s0 s1 = put_first 0 a s0 m la e1 in
      let u2 : Put 0 (m + q) (a ++ b) s0 s2 = put_next b (m + q) m u1 (omega arith) (omega arith) e2 (ap (λ (i : ℕ). m + i) lb) in
      let u3 : Put 0 (m + q + q) (a ++ b ++ c) s0 s3 = put_next c (m + q + q) (m + q) u2 (omega arith) (omega arith) e3 (ap (λ (i : ℕ). m + q + i) lc) in
      let u4 : Put 0 (m + q + q + q) (a ++ b ++ c ++ d) s0 s4 = put_next d (m + q + q + q) (m + q + q) u3 (omega arith) (omega arith) e4 (ap (λ (i : ℕ). m + q + q + i) ld) in
      let u5 : Put 0 (m + q + q + q + q) (a ++ b ++ c ++ d ++ e) s0 s5 = put_next e (m + q + q + q + q) (m + q + q + q) u4 (omega arith) (omega arith) e5 (ap (λ (i : ℕ). m + q + q + q + i) le) in
      let w = put_all (a ++ b ++ c ++ d ++ e) u5 refl in
      rw (rows.mean_row m bs, rows.star_row s bs, rows.pinf_row s bs, rows.root_row s bs, rows.unres_row s bs) (parts m q a b c d e _ la lb lc ld le s5 w)

-- with the tallies, what is carried
pub carried_loaded : (m : ℕ) (bs : List ℕ) (s : List Float) (t : Tallies) → LoadedState m bs s → LoadedTallies (numbers_in (widths m) bs) t → carried_of m s t ≡ loaded m bs
unfolding loaded_past loaded_mean
carried_loaded m bs s t h g = cc
