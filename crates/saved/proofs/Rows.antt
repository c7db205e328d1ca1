-- A saved run by its places: where each section's count and numbers stand.
use mathlib.Core.Path.{◌≡◌, refl, sym, ap, ◌∙◌}
use Prim.Native.Nat.{ℕ, ◌+◌, ◌*◌, ◌<◌}
use native.Mathlib.Omega.{arith}
use mathlib.Core.Bool.{Bool, false, not, ◌||◌}
use mathlib.Core.List.{List, [], ◌∷◌}
use lib.ListN.{length, get_or, take, drop, length-map}
use lib.Seq.{drop-drop}
use lib.Dec.{eqb}
use Rattle.definition.specs.Run.{chunks}
use Rattle.definition.specs.Saved.{from_bytes, length_of, widths, wrong_count, numbers_in, section_at, number_at}
use Rattle.laws.specs.Any.{or_assoc, or_false}
use Rattle.laws.specs.Lists.{length-chunks}
use Rattle.laws.specs.Bytes.{section_from, number_at_lem}
use Rattle.laws.specs.Passes.{chunk_at}
use Rattle.laws.specs.ReadBack.{get_d_map_in}
use Rattle.saved.specs.Places.{bytes_at, numbers_at, Starts}

pub row_length : (w at : ℕ) (bs : List ℕ) → length (numbers_at w at bs) ≡ w
row_length w at bs = length-map (chunks w 8 (drop at bs)) from_bytes ∙ length-chunks w 8 (drop at bs)

-- number i of a row
pub row-at : (w at i : ℕ) (bs : List ℕ) → i < w → get_or (numbers_at w at bs) i 0 ≡ bytes_at 8 (at + i * 8) bs
row-at w at i bs h =
    get_d_map_in from_bytes (chunks w 8 (drop at bs)) i [] 0 (rw length-chunks h) ∙ ap from_bytes (chunk_at w 8 (drop at bs) i h ∙ ap (take 8) (drop-drop (i * 8) at bs))

-- the counts
abbrev wrong_from : List ℕ → ℕ → List ℕ → Bool
wrong_from [] at bs = false
wrong_from (w ∷ ws) at bs = not (eqb (bytes_at 4 at bs) w) || wrong_from ws (at + (4 + w * 8)) bs

wrong_from_lem : (ws : List ℕ) (at : ℕ) (bs : List ℕ) → wrong_count ws (drop at bs) ≡ wrong_from ws at bs
unfolding wrong_count
wrong_from_lem [] at bs = refl
wrong_from_lem (w ∷ ws) at bs = ap (λ (b : Bool). not (eqb (bytes_at 4 at bs) w) || b) (ap (wrong_count ws) (drop-drop (4 + w * 8) at bs) ∙ wrong_from_lem ws (at + (4 + w * 8)) bs)

ors : (a b c d e f g h : Bool) → (a || b || c || d || e || f || g || h) ≡ (a || (b || (c || (d || (e || (f || (g || (h || false))))))))
ors a b c d e f g h = simp (or_assoc, or_false)

module _ (m : ℕ) (bs : List ℕ) where
  -- a section, and a number, where it starts
  pub section_there : (k at : ℕ) → k < 8 → length_of (take k (widths m)) + 4 ≡ at → section_at (numbers_in (widths m) bs) k ≡ numbers_at (get_or (widths m) k 0) at bs
  unfolding widths
  section_there k at h e = section_from (widths m) bs k h ∙ ap (λ (i : ℕ). numbers_at (get_or (widths m) k 0) i bs) e

  pub number_there : (k i at : ℕ) → k < 8 → i < get_or (widths m) k 0 → length_of (take k (widths m)) + 4 + i * 8 ≡ at → number_at (numbers_in (widths m) bs) k i ≡ bytes_at 8 at bs
  unfolding widths
  number_there k i at h g e = number_at_lem (widths m) bs k i h g ∙ ap (λ (j : ℕ). bytes_at 8 j bs) e

  pub mean_row : section_at (numbers_in (widths m) bs) 1 ≡ numbers_at m 40 bs
  unfolding widths length_of
  mean_row = section_there 1 40 (omega arith) (omega arith)

  pub size_there : (i at : ℕ) → i < 4 → 4 + i * 8 ≡ at → number_at (numbers_in (widths m) bs) 0 i ≡ bytes_at 8 at bs
  unfolding widths length_of
  size_there i at h e = number_there 0 i at (omega arith) h e

module _ {m star pinf root unres loglik tallies end : ℕ} (s : Starts m star pinf root unres loglik tallies end) (bs : List ℕ) where
  abbrev other : ℕ → ℕ → Bool
  other at w = not (eqb (bytes_at 4 at bs) w)

  pub wrong_is : (other 0 4 || other 36 m || other star (m * m) || other pinf (m * m) || other root (m * m) || other unres (m * m) || other loglik 1 || other tallies 6) ≡ wrong_count (widths m) bs
  unfolding widths
  wrong_is =
      let a : 36 + (4 + m * 8) ≡ star = omega arith in
      let b : 36 + (4 + m * 8) + (4 + m * m * 8) ≡ pinf = omega arith in
      let c : 36 + (4 + m * 8) + (4 + m * m * 8) + (4 + m * m * 8) ≡ root = omega arith in
      let d : 36 + (4 + m * 8) + (4 + m * m * 8) + (4 + m * m * 8) + (4 + m * m * 8) ≡ unres = omega arith in
      let e : 36 + (4 + m * 8) + (4 + m * m * 8) + (4 + m * m * 8) + (4 + m * m * 8) + (4 + m * m * 8) ≡ loglik = omega arith in
      let f : 36 + (4 + m * 8) + (4 + m * m * 8) + (4 + m * m * 8) + (4 + m * m * 8) + (4 + m * m * 8) + 12 ≡ tallies = omega arith in
      let w : wrong_count (widths m) bs ≡ wrong_from (widths m) 0 bs = wrong_from_lem (widths m) 0 bs in
      ors (other 0 4) (other 36 m) (other star (m * m)) (other pinf (m * m)) (other root (m * m)) (other unres (m * m)) (other loglik 1) (other tallies 6) ∙ sym (w ∙ rw (f, e, d, c, b, a) refl)

  -- the six rows of floats
  pub star_row : section_at (numbers_in (widths m) bs) 2 ≡ numbers_at (m * m) (star + 4) bs
  unfolding widths length_of
  star_row = section_there m bs 2 (star + 4) (omega arith) (omega arith)

  pub pinf_row : section_at (numbers_in (widths m) bs) 3 ≡ numbers_at (m * m) (pinf + 4) bs
  unfolding widths length_of
  pinf_row = section_there m bs 3 (pinf + 4) (omega arith) (omega arith)

  pub root_row : section_at (numbers_in (widths m) bs) 4 ≡ numbers_at (m * m) (root + 4) bs
  unfolding widths length_of
  root_row = section_there m bs 4 (root + 4) (omega arith) (omega arith)

  pub unres_row : section_at (numbers_in (widths m) bs) 5 ≡ numbers_at (m * m) (unres + 4) bs
  unfolding widths length_of
  unres_row = section_there m bs 5 (unres + 4) (omega arith) (omega arith)

  pub loglik_row : section_at (numbers_in (widths m) bs) 6 ≡ numbers_at 1 (loglik + 4) bs
  unfolding widths length_of
  loglik_row = section_there m bs 6 (loglik + 4) (omega arith) (omega arith)

  -- the other numbers
  pub loglik_there : number_at (numbers_in (widths m) bs) 6 0 ≡ bytes_at 8 (loglik + 4) bs
  unfolding widths length_of
  loglik_there = number_there m bs 6 0 (loglik + 4) (omega arith) (omega arith) (omega arith)

  pub tally_there : (i at : ℕ) → i < 6 → tallies + 4 + i * 8 ≡ at → number_at (numbers_in (widths m) bs) 7 i ≡ bytes_at 8 at bs
  unfolding widths length_of
  tally_there i at h e = number_there m bs 7 i at (omega arith) h (omega arith)
