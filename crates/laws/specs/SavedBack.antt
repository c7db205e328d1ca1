-- A saved run read back: what a run saves is not bad and loads as it was (`loads`, `good`); what is not bad saves as it was (`saves`), so that loading,
-- then saving, gives the same bytes, and one run has one encoding.
use Rattle.std.specs.Prelude.{◌≡◌, ℕ, zero, suc, ◌+◌, ◌*◌, ◌^◌, ◌≤◌, ◌<◌, Bool, true, false, not, ◌&&◌, cond, take, drop, T, ltb, eqb, Float}
use Rattle.std.proofs.Math.Path.{refl, ap}
use Rattle.std.proofs.Common.{sym, ap₂, ◌∙◌, subst, lt_of_lt_of_le, arith, length-take}
use Rattle.std.proofs.Math.Nat.{mul-le-mul, pow-le-pow_right}
use mathlib.Core.List.{List, [], ◌∷◌, map}
use Rattle.std.proofs.Math.ListN.{length, length-map}
use Rattle.std.specs.Float.{nan, inf, fin}
use Rattle.std.specs.Float.Ieee.{binary64, is_nan, to_bits}
use Rattle.std.specs.Float.Ieee.Bits.{of_bits-to_bits, to_bits-of_bits, to_bits-lt, of_bits-fits}
use borrow.Author.Tests.{eq-eqb, eqb-true, not-false, ltb-false, le-ltb}
use Rattle.definition.specs.Run.{any_of, chunks, join}
use Rattle.definition.specs.Mean.{Mean}
use Rattle.definition.specs.Carried.{Past, Carried}
use Rattle.definition.specs.Saved.{from_bytes, bits, float, section, sections, saved_of, saved_need, widths, wrong_count, numbers_in, section_at, number_at, done_in, diffuse_in, heard_in, news_in, state_in, cov_off_in, mean_off_in, other_nan, bad_sizes, bad_tallies, bad_floats, bad_saved, loaded_past, loaded_mean}
use Rattle.laws.specs.Lists.{length-chunks}
use Rattle.laws.specs.Sizes.{square_le}
use Rattle.laws.specs.Any.{either_false, or_false}
use Rattle.laws.specs.All.{AllOf, all_true, all_as, all_map, all_take, all_drop, map_back, none_fails, fails_none}
use Rattle.laws.specs.Bytes.{Byte, Wide, number_lt, sections_length, sections_counted, sections_read, sections_back, sections_bytes}
use Rattle.laws.specs.Kept.{Double, Doubles, Kept, Tallied}

-- ---- a float by its bits, and back

pub float-bits : (l : List Float) → AllOf Double l → map float (map bits l) ≡ l
float-bits l h = map_back bits float l (all_as l (of_bits-to_bits binary64) h)

bits_wide : (l : List Float) → AllOf Double l → AllOf Wide (map bits l)
bits_wide l h = all_map Wide bits l (to_bits-lt binary64) h

nan_bits : bits nan ≡ 0x7ff8000000000000
unfolding to_bits
nan_bits = refl

-- what is written for a float is no NaN with other bits
plain : (v : Float) → (is_nan v && not (eqb (bits v) 0x7ff8000000000000)) ≡ false
unfolding is_nan
plain nan = ap not (eq-eqb (bits nan) 0x7ff8000000000000 nan_bits)
plain (inf s) = refl
plain (fin s m e) = refl

bits_plain : (v : Float) → Double v → other_nan (bits v) ≡ false
unfolding other_nan
bits_plain v h = ap (λ (w : Float). is_nan w && not (eqb (bits v) 0x7ff8000000000000)) (of_bits-to_bits binary64 v h) ∙ plain v

no_other : (l : List Float) → AllOf Double l → any_of other_nan (map bits l) ≡ false
no_other l h = fails_none other_nan (map bits l) (all_map (λ k. other_nan k ≡ false) bits l bits_plain h)

-- and bits that are no such NaN are written again
the_nan : (v : Float) → is_nan v ≡ true → v ≡ nan
unfolding is_nan
the_nan nan e = refl
the_nan (inf s) e = absurd (let z : ◌≡◌ {A = ℕ} 0 1 = cc in omega arith)
the_nan (fin s m e') e = absurd (let z : ◌≡◌ {A = ℕ} 0 1 = cc in omega arith)

pub bits-float : (k : ℕ) → Wide k → other_nan k ≡ false → bits (float k) ≡ k
unfolding other_nan
bits-float k h e = go (is_nan (float k)) refl
  where
    go : (b : Bool) → is_nan (float k) ≡ b → bits (float k) ≡ k
    go true q =
        let g : not (eqb k 0x7ff8000000000000) ≡ false = ap (λ (b : Bool). b && not (eqb k 0x7ff8000000000000)) (sym q) ∙ e in
        let c : k ≡ 0x7ff8000000000000 = eqb-true k 0x7ff8000000000000 (not-false (eqb k 0x7ff8000000000000) g) in
        ap bits (the_nan (float k) q) ∙ nan_bits ∙ sym c
    go false q = to_bits-of_bits binary64 k h (subst (λ (b : Bool). T (not b)) (sym q) tt)

bits_floats : (l : List ℕ) → AllOf Wide l → any_of other_nan l ≡ false → map bits (map float l) ≡ l
bits_floats l h e = map_back float bits l (each l h (none_fails other_nan l e))
  where
    each : (l : List ℕ) → AllOf Wide l → AllOf (λ k. other_nan k ≡ false) l → AllOf (λ k. bits (float k) ≡ k) l
    each [] h g = tt
    each (k ∷ l) h g = (bits-float k h.0 g.0, each l h.1 g.1)

-- ---- what a run saves

-- the state of a run that passed refusals 1 and 15
pub record Savable (p m r : ℕ) (s : Carried) : Type 0 where
  pub p8 : p ≤ 8
  pub m8 : m ≤ 8
  pub r8 : r ≤ 8
  pub kept : Kept m s
  pub tallies : Tallied p s
  pub early : s.past.done ≤ 4096

-- what is loaded from bytes
abbrev pub loaded : ℕ → List ℕ → Carried
loaded m bs = let ns = numbers_in (widths m) bs in record { past = loaded_past ns; mean = loaded_mean ns; mean_off = mean_off_in ns }

one_of : (b : Bool) → (cond b 1 0 ≤ 1) × (eqb (cond b 1 0) 1 ≡ b) × (ltb 1 (cond b 1 0) ≡ false)
one_of true = (omega arith, refl, refl)
one_of false = (omega arith, refl, refl)

module _ (p m r : ℕ) (s : Carried) (q : Savable p m r s) where
  counted : map length (sections p m r s) ≡ widths m
  unfolding sections widths
  counted =
      let a = length-map s.mean.a bits ∙ q.kept.mean.a.long in
      let b = length-map s.past.cov.star bits ∙ q.kept.cov.star.long in
      let c = length-map s.past.cov.pinf bits ∙ q.kept.cov.pinf.long in
      let d = length-map s.past.cov.root bits ∙ q.kept.cov.root.long in
      let e = length-map s.past.cov.unres bits ∙ q.kept.cov.unres.long in
      cc

  short : AllOf (λ l. length l < 256 ^ 4) (sections p m r s)
  unfolding widths
  short = few (sections p m r s) (subst (AllOf (λ (w : ℕ). w < 256 ^ 4)) (sym counted) narrow)
    where
      few : (ls : List (List ℕ)) → AllOf (λ w. w < 256 ^ 4) (map length ls) → AllOf (λ l. length l < 256 ^ 4) ls
      few [] h = tt
      few (l ∷ ls) h = (h.0, few ls h.1)

      narrow : AllOf (λ w. w < 256 ^ 4) (widths m)
      narrow =
          let sq : m * m < 256 ^ 4 = omega (arith, square_le m q.m8) in
          (omega arith, (omega (arith, q.m8), (sq, (sq, (sq, (sq, (omega arith, (omega arith, tt))))))))

  wide : AllOf (AllOf Wide) (sections p m r s)
  unfolding sections
  wide =
      let top : s.past.done * p ≤ 4096 * 8 = mul-le-mul q.early q.p8 in
      let v = s.past.cov in
      let c = q.kept.cov in
      let k = q.tallies in (
        (omega (arith, q.p8), (omega (arith, q.m8), (omega (arith, q.r8), (omega (arith, q.early), tt)))),
        (
          bits_wide s.mean.a q.kept.mean.a.each,
          (
            bits_wide v.star c.star.each,
            (
              bits_wide v.pinf c.pinf.each,
              (
                bits_wide v.root c.root.each,
                (
                  bits_wide v.unres c.unres.each,
                  (
                    (to_bits-lt binary64 s.mean.loglik q.kept.mean.loglik, tt),
                    ((omega (arith, q.early, k.d_diffuse), (omega (arith, k.heard), (omega (arith, k.heard, k.news), (omega (arith, (one_of s.past.cov.live).0), (omega (arith, q.early, k.cov_off), (omega (arith, q.early, k.mean_off), tt)))))), tt),
                  ),
                ),
              ),
            ),
          ),
        ),
      )

  pub read : numbers_in (widths m) (saved_of p m r s) ≡ sections p m r s
  unfolding saved_of
  read = ap (λ (ws : List ℕ). numbers_in ws (join (map section (sections p m r s)))) (sym counted) ∙ sections_read (sections p m r s) wide

  pub saved_length : length (saved_of p m r s) ≡ saved_need m
  unfolding saved_of
  saved_length = rw counted at (sections_length (sections p m r s))

  pub saved_bytes : AllOf Byte (saved_of p m r s)
  unfolding saved_of
  saved_bytes = sections_bytes (sections p m r s) short wide

  saved_counts : wrong_count (widths m) (saved_of p m r s) ≡ false
  unfolding saved_of
  saved_counts = ap (λ (ws : List ℕ). wrong_count ws (join (map section (sections p m r s)))) (sym counted) ∙ sections_counted (sections p m r s) short

  loaded_past_lem : loaded_past (sections p m r s) ≡ s.past
  unfolding loaded_past sections
  loaded_past_lem =
      let v = s.past.cov in
      let c = q.kept.cov in
      rw (float-bits v.star c.star.each, float-bits v.pinf c.pinf.each, float-bits v.root c.root.each, float-bits v.unres c.unres.each, (one_of s.past.cov.live).1)

  loaded_mean_lem : loaded_mean (sections p m r s) ≡ s.mean
  unfolding loaded_mean sections
  loaded_mean_lem = rw (float-bits s.mean.a q.kept.mean.a.each, of_bits-to_bits binary64 s.mean.loglik q.kept.mean.loglik)

  loaded_mean_off : mean_off_in (sections p m r s) ≡ s.mean_off
  unfolding sections
  loaded_mean_off = refl

  pub loads : loaded m (saved_of p m r s) ≡ s
  loads =
      ap (λ (ns : List (List ℕ)). record { past = loaded_past ns; mean = loaded_mean ns; mean_off = mean_off_in ns }) read
      ∙ ap₂ (λ (a : Past) (b : Mean). record { past = a; mean = b; mean_off = mean_off_in (sections p m r s) }) loaded_past_lem loaded_mean_lem
      ∙ ap (λ (k : ℕ). record { past = s.past; mean = s.mean; mean_off = k }) loaded_mean_off

  good_sizes : (n : ℕ) → bad_sizes p m r n (sections p m r s) ≡ ltb 4096 (s.past.done + n)
  unfolding bad_sizes sections
  good_sizes n = rw (eq-eqb p p refl, eq-eqb m m refl, eq-eqb r r refl)

  good_tallies : bad_tallies p (sections p m r s) ≡ false
  unfolding bad_tallies sections
  good_tallies = let k = q.tallies in rw (le-ltb _ _ k.d_diffuse, le-ltb _ _ k.heard, le-ltb _ _ k.news, (one_of s.past.cov.live).2, le-ltb _ _ k.cov_off, le-ltb _ _ k.mean_off)

  good_floats : bad_floats (sections p m r s) ≡ false
  unfolding bad_floats sections
  good_floats =
      let v = s.past.cov in
      let c = q.kept.cov in
      rw (no_other s.mean.a q.kept.mean.a.each, no_other v.star c.star.each, no_other v.pinf c.pinf.each, no_other v.root c.root.each, no_other v.unres c.unres.each)
      (no_other (s.mean.loglik ∷ []) (q.kept.mean.loglik, tt))

  -- of the conditions only done plus stretch is left to see
  pub bad_is : (n : ℕ) → bad_saved p m r n (saved_of p m r s) ≡ ltb 4096 (s.past.done + n)
  unfolding bad_saved
  bad_is n =
      rw (eq-eqb (length (saved_of p m r s)) (saved_need m) saved_length, saved_counts, read, good_sizes n, good_tallies, good_floats)
      (or_false _ ∙ or_false (ltb 4096 (s.past.done + n)))

  pub good : (n : ℕ) → s.past.done + n ≤ 4096 → bad_saved p m r n (saved_of p m r s) ≡ false
  good n h = bad_is n ∙ le-ltb 4096 (s.past.done + n) h

-- ---- what is not bad

numbers_small : (w : ℕ) (bs : List ℕ) → AllOf Byte bs → AllOf Wide (map from_bytes (chunks w 8 bs))
unfolding chunks
numbers_small zero bs h = tt
numbers_small (suc w) bs h =
    let few : length (take 8 bs) ≤ 8 = rw length-take (omega arith) in
    let top : 256 ^ length (take 8 bs) ≤ 256 ^ 8 = pow-le-pow_right (omega arith) few in
    (lt_of_lt_of_le (number_lt (take 8 bs) (all_take Byte 8 bs h)) top, numbers_small w (drop 8 bs) (all_drop Byte 8 bs h))

pub numbers_wide : (ws bs : List ℕ) → AllOf Byte bs → AllOf (AllOf Wide) (numbers_in ws bs)
unfolding numbers_in
numbers_wide [] bs h = tt
numbers_wide (w ∷ ws) bs h = (numbers_small w (drop 4 bs) (all_drop Byte 4 bs h), numbers_wide ws (drop (4 + w * 8) bs) (all_drop Byte (4 + w * 8) bs h))

pub record SameSizes (p m r n : ℕ) (ns : List (List ℕ)) : Type 0 where
  pub same_p : number_at ns 0 0 ≡ p
  pub same_m : number_at ns 0 1 ≡ m
  pub same_r : number_at ns 0 2 ≡ r
  pub early : done_in ns + n ≤ 4096

same_sizes : (p m r n : ℕ) (ns : List (List ℕ)) → bad_sizes p m r n ns ≡ false → SameSizes p m r n ns
unfolding bad_sizes
same_sizes p m r n ns e =
    let a = either_false _ _ e in
    let b = either_false _ _ a.0 in
    let c = either_false _ _ b.0 in
    record { same_p = eqb-true _ _ (not-false _ c.0); same_m = eqb-true _ _ (not-false _ c.1); same_r = eqb-true _ _ (not-false _ b.1); early = ltb-false _ _ a.1 }

pub record Tallies (p : ℕ) (ns : List (List ℕ)) : Type 0 where
  pub d_diffuse : diffuse_in ns ≤ done_in ns
  pub heard : heard_in ns ≤ done_in ns * p
  pub news : news_in ns ≤ heard_in ns
  pub state : state_in ns ≤ 1
  pub cov_off : cov_off_in ns ≤ done_in ns
  pub mean_off : mean_off_in ns ≤ done_in ns

tallies_of : (p : ℕ) (ns : List (List ℕ)) → bad_tallies p ns ≡ false → Tallies p ns
unfolding bad_tallies
tallies_of p ns e =
    let a = either_false _ _ e in
    let b = either_false _ _ a.0 in
    let c = either_false _ _ b.0 in
    let d = either_false _ _ c.0 in
    let f = either_false _ _ d.0 in
    record {
      d_diffuse = ltb-false _ _ f.0;
      heard = ltb-false _ _ f.1;
      news = ltb-false _ _ d.1;
      state = ltb-false _ _ c.1;
      cov_off = ltb-false _ _ b.1;
      mean_off = ltb-false _ _ a.1;
    }

-- no NaN has other bits in the sections of floats
record Floats (ns : List (List ℕ)) : Type 0 where
  mean : any_of other_nan (section_at ns 1) ≡ false
  star : any_of other_nan (section_at ns 2) ≡ false
  pinf : any_of other_nan (section_at ns 3) ≡ false
  root : any_of other_nan (section_at ns 4) ≡ false
  unres : any_of other_nan (section_at ns 5) ≡ false
  loglik : any_of other_nan (section_at ns 6) ≡ false

floats_of : (ns : List (List ℕ)) → bad_floats ns ≡ false → Floats ns
unfolding bad_floats
floats_of ns e =
    let a = either_false _ _ e in
    let b = either_false _ _ a.0 in
    let c = either_false _ _ b.0 in
    let d = either_false _ _ c.0 in
    let f = either_false _ _ d.0 in
    record { mean = f.0; star = f.1; pinf = d.1; root = c.1; unres = b.1; loglik = a.1 }

pub record NotBad (p m r n : ℕ) (bs : List ℕ) : Type 0 where
  pub long : length bs ≡ saved_need m
  pub counts : wrong_count (widths m) bs ≡ false
  pub sizes : SameSizes p m r n (numbers_in (widths m) bs)
  pub tallies : Tallies p (numbers_in (widths m) bs)
  pub floats : bad_floats (numbers_in (widths m) bs) ≡ false

pub not_bad : (p m r n : ℕ) (bs : List ℕ) → bad_saved p m r n bs ≡ false → NotBad p m r n bs
unfolding bad_saved
not_bad p m r n bs ok =
    let a = either_false _ _ ok in
    let b = either_false _ _ a.0 in
    let c = either_false _ _ b.0 in
    let d = either_false _ _ c.0 in
    record {
      long = eqb-true _ _ (not-false _ d.0);
      counts = d.1;
      sizes = same_sizes p m r n (numbers_in (widths m) bs) c.1;
      tallies = tallies_of p (numbers_in (widths m) bs) b.1;
      floats = a.1;
    }

one_bit : (k : ℕ) → k ≤ 1 → cond (eqb k 1) 1 0 ≡ k
one_bit zero h = refl
one_bit (suc zero) h = refl
one_bit (suc (suc k)) h = absurd (omega arith)

module _ (p m r n : ℕ) (bs : List ℕ) (bytes : AllOf Byte bs) (ok : bad_saved p m r n bs ≡ false) where
  same_sections : sections p m r (loaded m bs) ≡ numbers_in (widths m) bs
  unfolding sections loaded_past loaded_mean widths numbers_in chunks
  same_sections =
      let ns = numbers_in (widths m) bs in
      let all = not_bad p m r n bs ok in
      let g = floats_of ns all.floats in
      let w = (numbers_wide (widths m) bs bytes).1 in
      let a = bits_floats (section_at ns 1) w.0 g.mean in
      let b = bits_floats (section_at ns 2) w.1.0 g.star in
      let c = bits_floats (section_at ns 3) w.1.1.0 g.pinf in
      let d = bits_floats (section_at ns 4) w.1.1.1.0 g.root in
      let e = bits_floats (section_at ns 5) w.1.1.1.1.0 g.unres in
      let l = bits_floats (section_at ns 6) w.1.1.1.1.1.0 g.loglik in
      let z = one_bit (state_in ns) all.tallies.state in
      let s = all.sizes in
      cc

  pub saves : saved_of p m r (loaded m bs) ≡ bs
  unfolding saved_of
  saves =
      let all = not_bad p m r n bs ok in
      ap (λ (ls : List (List ℕ)). join (map section ls)) same_sections ∙ sections_back (widths m) bs all.long all.counts bytes

  pub loaded_tallied : Tallied p (loaded m bs)
  unfolding loaded_past
  loaded_tallied = let l = (not_bad p m r n bs ok).tallies in record { d_diffuse = l.d_diffuse; heard = l.heard; news = l.news; cov_off = l.cov_off; mean_off = l.mean_off }

-- ---- whatever the bytes, as many doubles are loaded as a state has

floats_of_bytes : (w : ℕ) (bs : List ℕ) → Doubles w (map float (map from_bytes (chunks w 8 bs)))
floats_of_bytes w bs =
    record {
      long = length-map (map from_bytes (chunks w 8 bs)) float ∙ length-map (chunks w 8 bs) from_bytes ∙ length-chunks w 8 bs;
      each = all_map Double float (map from_bytes (chunks w 8 bs)) (λ k u. of_bits-fits binary64 k) (all_true (map from_bytes (chunks w 8 bs)));
    }

pub loaded_kept : (m : ℕ) (bs : List ℕ) → Kept m (loaded m bs)
unfolding loaded_past loaded_mean numbers_in widths
loaded_kept m bs =
    record {
      cov = record { star = floats_of_bytes (m * m) _; pinf = floats_of_bytes (m * m) _; root = floats_of_bytes (m * m) _; unres = floats_of_bytes (m * m) _ };
      mean = record { a = floats_of_bytes m _; loglik = of_bits-fits binary64 _ };
    }
