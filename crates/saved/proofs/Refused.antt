-- Refusal 15, test by test.
use mathlib.Core.Path.{◌≡◌, refl, sym, ap, ◌∙◌, subst}
use Prim.Native.Nat.{ℕ, ◌+◌, ◌-◌, ◌*◌, ◌%◌, ◌≤◌, ◌<◌}
use native.Mathlib.Omega.{arith}
use mathlib.Core.Bool.{Bool, true, false, not, ◌&&◌, ◌||◌}
use mathlib.Core.List.{List}
use lib.ListN.{length}
use lib.Dec.{ltb, eqb}
use lib.Ieee.{binary64}
use lib.Ieee.Bits.{nan_bits_is, nan_bits_above}
use borrow.Author.Tests.{lt-ltb, le-ltb, ltb-true, ltb-false, eq-eqb, ne_eqb}
use Rattle.definition.specs.Run.{any_of, chunks}
use Rattle.definition.specs.Saved.{other_nan, length_of, widths, saved_need, wrong_count, numbers_in, number_at, done_in, bad_sizes, bad_tallies, bad_floats, bad_saved}
use Rattle.laws.specs.Any.{either_false, or_false, or_true}
use Rattle.saved.specs.Places.{bytes_at, numbers_at, whole, Starts}
use Rattle.saved.proofs.Rows as rows

pub need_is : (m : ℕ) → saved_need m ≡ whole m
unfolding widths length_of
need_is m = omega arith

pub nan_is : (k : ℕ) → (ltb 0x7ff0000000000000 (k % 0x8000000000000000) && not (eqb k 0x7ff8000000000000)) ≡ other_nan k
unfolding other_nan
nan_is k = ap (λ (b : Bool). b && not (eqb k 0x7ff8000000000000)) (sym (nan_bits_above binary64 k) ∙ nan_bits_is binary64 k)

-- ---- the sizes

module _ (p m r n : ℕ) (bs : List ℕ) where
  pub sizes_late : 4096 < bytes_at 8 28 bs → true ≡ bad_sizes p m r n (numbers_in (widths m) bs)
  unfolding bad_sizes
  sizes_late h = sym (rw (rows.size_there m bs 3 28 (omega arith) refl, lt-ltb 4096 (bytes_at 8 28 bs + n) (omega arith), or_true) refl)

  above : (done : ℕ) → done ≤ 4096 → ltb (4096 - done) n ≡ ltb 4096 (done + n)
  above done h = by (ltb 4096 (done + n)) refl
    where
      by : (t : Bool) → ltb 4096 (done + n) ≡ t → ltb (4096 - done) n ≡ t
      by true e = lt-ltb (4096 - done) n (omega (arith, ltb-true 4096 (done + n) e))
      by false e = le-ltb (4096 - done) n (omega (arith, ltb-false 4096 (done + n) e))

  pub sizes_are : bytes_at 8 28 bs ≤ 4096 → (not (eqb (bytes_at 8 4 bs) p) || not (eqb (bytes_at 8 12 bs) m) || not (eqb (bytes_at 8 20 bs) r) || ltb (4096 - bytes_at 8 28 bs) n) ≡ bad_sizes p m r n (numbers_in (widths m) bs)
  unfolding bad_sizes
  sizes_are h =
      rw (above (bytes_at 8 28 bs) h, rows.size_there m bs 0 4 (omega arith) refl, rows.size_there m bs 1 12 (omega arith) refl, rows.size_there m bs 2 20 (omega arith) refl, rows.size_there m bs 3 28 (omega arith) refl) refl

  pub early : bad_sizes p m r n (numbers_in (widths m) bs) ≡ false → bytes_at 8 28 bs ≤ 4096
  unfolding bad_sizes
  early e = let ns = numbers_in (widths m) bs in let h : bytes_at 8 28 bs + n ≤ 4096 = subst (λ (k : ℕ). k + n ≤ 4096) (rows.size_there m bs 3 28 (omega arith) refl) (ltb-false _ _ (either_false (not (eqb (number_at ns 0 0) p) || not (eqb (number_at ns 0 1) m) || not (eqb (number_at ns 0 2) r)) (ltb 4096 (done_in ns + n)) e).1) in omega arith

  -- ---- all

  pub bad_length_lem : (length bs ≡ whole m → ⊥) → true ≡ bad_saved p m r n bs
  unfolding bad_saved
  bad_length_lem h = sym (rw (ne_eqb (length bs) (saved_need m) (λ e. h (e ∙ need_is m))) refl)

  pub bad_sizes_lem : bad_sizes p m r n (numbers_in (widths m) bs) ≡ true → true ≡ bad_saved p m r n bs
  unfolding bad_saved
  bad_sizes_lem e = sym (rw (e, or_true) refl)

  pub bad_rest : length bs ≡ whole m → bad_sizes p m r n (numbers_in (widths m) bs) ≡ false → (wrong_count (widths m) bs || bad_tallies p (numbers_in (widths m) bs) || bad_floats (numbers_in (widths m) bs)) ≡ bad_saved p m r n bs
  unfolding bad_saved
  bad_rest l e = sym (rw (eq-eqb (length bs) (saved_need m) (l ∙ sym (need_is m)), e) (shut (wrong_count (widths m) bs) (bad_tallies p (numbers_in (widths m) bs)) (bad_floats (numbers_in (widths m) bs))))
    where
      shut : (a b c : Bool) → (a || false || b || c) ≡ (a || b || c)
      shut true b c = refl
      shut false b c = refl

module _ {m star pinf root unres loglik tallies end : ℕ} (s : Starts m star pinf root unres loglik tallies end) (bs : List ℕ) where
  pub tallies_are : (p : ℕ) → (ltb (bytes_at 8 28 bs) (bytes_at 8 (tallies + 4) bs) || ltb (bytes_at 8 28 bs * p) (bytes_at 8 (tallies + 12) bs) || ltb (bytes_at 8 (tallies + 12) bs) (bytes_at 8 (tallies + 20) bs) || ltb 1 (bytes_at 8 (tallies + 28) bs) || ltb (bytes_at 8 28 bs) (bytes_at 8 (tallies + 36) bs) || ltb (bytes_at 8 28 bs) (bytes_at 8 (tallies + 44) bs)) ≡ bad_tallies p (numbers_in (widths m) bs)
  unfolding bad_tallies
  tallies_are p =
      rw (rows.size_there m bs 3 28 (omega arith) refl, rows.tally_there s bs 0 (tallies + 4) (omega arith) (omega arith), rows.tally_there s bs 1 (tallies + 12) (omega arith) (omega arith), rows.tally_there s bs 2 (tallies + 20) (omega arith) (omega arith), rows.tally_there s bs 3 (tallies + 28) (omega arith) (omega arith), rows.tally_there s bs 4 (tallies + 36) (omega arith) (omega arith), rows.tally_there s bs 5 (tallies + 44) (omega arith) (omega arith)) refl

  loglik_is : any_of other_nan (numbers_at 1 (loglik + 4) bs) ≡ other_nan (bytes_at 8 (loglik + 4) bs)
  unfolding any_of chunks
  loglik_is = or_false (other_nan (bytes_at 8 (loglik + 4) bs))

  pub floats_are : (any_of other_nan (numbers_at m 40 bs) || any_of other_nan (numbers_at (m * m) (star + 4) bs) || any_of other_nan (numbers_at (m * m) (pinf + 4) bs) || any_of other_nan (numbers_at (m * m) (root + 4) bs) || any_of other_nan (numbers_at (m * m) (unres + 4) bs) || other_nan (bytes_at 8 (loglik + 4) bs)) ≡ bad_floats (numbers_in (widths m) bs)
  unfolding bad_floats
  floats_are = rw (rows.mean_row m bs, rows.star_row s bs, rows.pinf_row s bs, rows.root_row s bs, rows.unres_row s bs, rows.loglik_row s bs, loglik_is) refl
