-- What is saved, section after section, is all of it.
use mathlib.Core.Path.{◌≡◌, refl, ap, ◌∙◌}
use Prim.Native.Nat.{ℕ, ◌+◌, ◌-◌, ◌*◌, ◌≤◌}
use native.Mathlib.Omega.{arith}
use mathlib.Core.Bool.{Bool, true, false, cond}
use mathlib.Core.List.{List, [], ◌∷◌, ◌++◌, map, append_assoc, append-nil}
use lib.ListN.{length, take, drop, length-map, length-drop}
use lib.Seq.{length-take-le}
use lib.Ieee.{Float}
use mir.Val.{bool_byte}
use Rattle.definition.specs.Run.{join, lay}
use Rattle.definition.specs.Saved.{bits, section, sections, saved_of}
use Rattle.laws.specs.Bytes.{section-length}
use Rattle.carried.specs.declared.Tallies.{Tallies}
use Rattle.saved.specs.Places.{put_at, whole, Starts}
use Rattle.saved.specs.Loaded.{carried_of}
use Rattle.saved.proofs.Put.{Put, put_first, put_next, put_all}

-- k numbers of x, as a section
abbrev pub float_section : ℕ → ℕ → List Float → List ℕ
float_section from k x = section (map bits (take k (drop from x)))

float_section_lem : (from k : ℕ) (x : List Float) → from + k ≤ length x → length (float_section from k x) ≡ 4 + k * 8
float_section_lem from k x h =
    section-length (map bits (take k (drop from x))) ∙ ap (λ (i : ℕ). 4 + i * 8) (length-map (take k (drop from x)) bits ∙ length-take-le k (drop from x) (simp length-drop (omega arith)))

-- the numbers of x up to a place
pub cut : (from to k at : ℕ) (x : List Float) (old : List ℕ) {new : List ℕ} → to - from ≡ k → new ≡ put_at at (float_section from (to - from) x) old → new ≡ put_at at (float_section from k x) old
cut from to k at x old e h = h ∙ ap (λ (i : ℕ). put_at at (float_section from i x) old) e

-- a bool as a number
pub bit_is : (b : Bool) → bool_byte b ≡ cond b 1 0
bit_is true = refl
bit_is false = refl

module _ {m star pinf root unres loglik tallies end : ℕ} (s : Starts m star pinf root unres loglik tallies end) (p r : ℕ) (x : List Float) (t : Tallies) where
  pub saves : (live : ℕ) (o0 o1 o2 o3 o4 o5 o6 o7 o8 : List ℕ) → live ≡ cond t.live 1 0 → whole m ≤ length o0 → m + m * m + m * m + m * m + m * m ≤ length x → o1 ≡ put_at 0 (section (p ∷ m ∷ r ∷ t.done ∷ [])) o0 → o2 ≡ put_at 36 (float_section 0 m x) o1 → o3 ≡ put_at star (float_section m (m * m) x) o2 → o4 ≡ put_at pinf (float_section (m + m * m) (m * m) x) o3 → o5 ≡ put_at root (float_section (m + m * m + m * m) (m * m) x) o4 → o6 ≡ put_at unres (float_section (m + m * m + m * m + m * m) (m * m) x) o5 → o7 ≡ put_at loglik (section (bits t.answer.loglik ∷ [])) o6 → o8 ≡ put_at tallies (section (t.answer.d_diffuse ∷ t.answer.heard ∷ t.answer.news ∷ live ∷ t.answer.cov_off ∷ t.answer.mean_off ∷ [])) o7
      → o8 ≡ lay (saved_of p m r (carried_of m x t)) o0
  unfolding saved_of sections join
  saves live o0 o1 o2 o3 o4 o5 o6 o7 o8 bit room h e1 e2 e3 e4 e5 e6 e7 e8 =
      let q = m * m in
      let s1 = section (p ∷ m ∷ r ∷ t.done ∷ []) in
      let s2 = float_section 0 m x in
      let s3 = float_section m q x in
      let s4 = float_section (m + q) q x in
      let s5 = float_section (m + q + q) q x in
      let s6 = float_section (m + q + q + q) q x in
      let s7 = section (bits t.answer.loglik ∷ []) in
      let s8 = section (t.answer.d_diffuse ∷ t.answer.heard ∷ t.answer.news ∷ live ∷ t.answer.cov_off ∷ t.answer.mean_off ∷ []) in
      let u1 : Put 0 36 s1 o0 o1 = put_first 0 s1 o0 36 (section-length (p ∷ m ∷ r ∷ t.done ∷ [])) e1 in
      let u2 : Put 0 star (s1 ++ s2) o0 o2 = put_next s2 star 36 u1 (omega arith) (omega arith) e2 (omega (arith, float_section_lem 0 m x (omega arith))) in
      let u3 : Put 0 pinf (s1 ++ s2 ++ s3) o0 o3 = put_next s3 pinf star u2 (omega arith) (omega arith) e3 (omega (arith, float_section_lem m q x (omega arith))) in
      let u4 : Put 0 root (s1 ++ s2 ++ s3 ++ s4) o0 o4 = put_next s4 root pinf u3 (omega arith) (omega arith) e4 (omega (arith, float_section_lem (m + q) q x (omega arith))) in
      let u5 : Put 0 unres (s1 ++ s2 ++ s3 ++ s4 ++ s5) o0 o5 = put_next s5 unres root u4 (omega arith) (omega arith) e5 (omega (arith, float_section_lem (m + q + q) q x (omega arith))) in
      let u6 : Put 0 loglik (s1 ++ s2 ++ s3 ++ s4 ++ s5 ++ s6) o0 o6 = put_next s6 loglik unres u5 (omega arith) (omega arith) e6 (omega (arith, float_section_lem (m + q + q + q) q x (omega arith))) in
      let u7 : Put 0 tallies (s1 ++ s2 ++ s3 ++ s4 ++ s5 ++ s6 ++ s7) o0 o7 = put_next s7 tallies loglik u6 (omega arith) (omega arith) e7 (omega (arith, section-length (bits t.answer.loglik ∷ []))) in
      let u8 : Put 0 end (s1 ++ s2 ++ s3 ++ s4 ++ s5 ++ s6 ++ s7 ++ s8) o0 o8 =
      put_next s8 end tallies u7 (omega arith) (omega arith) e8 (omega (arith, section-length (t.answer.d_diffuse ∷ t.answer.heard ∷ t.answer.news ∷ live ∷ t.answer.cov_off ∷ t.answer.mean_off ∷ []))) in
      put_all (saved_of p m r (carried_of m x t)) u8 (rw bit (simp (append_assoc, append-nil)))
