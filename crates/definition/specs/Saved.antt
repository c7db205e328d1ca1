-- A saved run: its bytes, which bytes are refused (15 BadSaved), and what is loaded from those that are not. docs/SAVED.md tells the same by places.
use Rattle.std.specs.Prelude.{ℕ, zero, suc, ◌+◌, ◌*◌, ◌/◌, ◌%◌, ◌^◌, Bool, false, not, ◌&&◌, ◌||◌, cond, List, [], ◌∷◌, ◌++◌, map, length, get_or, take, drop, ltb, eqb, Float}
use Rattle.std.specs.Float.{binary64}
use Rattle.std.specs.Float.Ieee.{of_bits, to_bits, is_nan}
use Rattle.definition.specs.Run.{any_of, chunks, join}
use Rattle.definition.specs.Mean.{Mean}
use Rattle.definition.specs.Carried.{Past, Carried}

-- ---- numbers as bytes, most significant first

unfoldable pub bytes_of : ℕ → ℕ → List ℕ
bytes_of zero v = []
bytes_of (suc k) v = v / 256 ^ k ∷ bytes_of k (v % 256 ^ k)

unfoldable pub from_bytes : List ℕ → ℕ
from_bytes [] = 0
from_bytes (b ∷ bs) = b * 256 ^ length bs + from_bytes bs

-- a float goes by its bits; `to_bits` writes a NaN as 0x7FF8000000000000
abbrev pub bits : Float → ℕ
bits v = to_bits binary64 v

abbrev pub float : ℕ → Float
float k = of_bits binary64 k

-- ---- a section: its count of numbers as four bytes, then each number as eight

unfoldable pub section : List ℕ → List ℕ
section l = bytes_of 4 (length l) ++ join (map (bytes_of 8) l)

-- the sections in their order: sizes, mean, covariance, diffuse covariance, diffuse root, unresolved matrix, likelihood, tallies
unfoldable pub sections : ℕ → ℕ → ℕ → Carried → List (List ℕ)
sections p m r s =
    let past = s.past in
    let c = past.cov in
    let l = past.counts in
    (p ∷ m ∷ r ∷ past.done ∷ [])
    ∷ map bits s.mean.a
    ∷ map bits c.star
    ∷ map bits c.pinf
    ∷ map bits c.root
    ∷ map bits c.unres
    ∷ (bits s.mean.loglik ∷ [])
    ∷ (l.d_diffuse ∷ l.heard ∷ l.news ∷ cond c.live 1 0 ∷ past.cov_off ∷ s.mean_off ∷ [])
    ∷ []

unfoldable pub saved_of : ℕ → ℕ → ℕ → Carried → List ℕ
saved_of p m r s = join (map section (sections p m r s))

-- ---- reading: each section's count, for m states; the length of all; the numbers

unfoldable pub widths : ℕ → List ℕ
widths m = 4 ∷ m ∷ m * m ∷ m * m ∷ m * m ∷ m * m ∷ 1 ∷ 6 ∷ []

unfoldable pub length_of : List ℕ → ℕ
length_of [] = 0
length_of (w ∷ ws) = 4 + w * 8 + length_of ws

abbrev pub saved_need : ℕ → ℕ
saved_need m = length_of (widths m)

unfoldable pub wrong_count : List ℕ → List ℕ → Bool
wrong_count [] bs = false
wrong_count (w ∷ ws) bs = not (eqb (from_bytes (take 4 bs)) w) || wrong_count ws (drop (4 + w * 8) bs)

unfoldable pub numbers_in : List ℕ → List ℕ → List (List ℕ)
numbers_in [] bs = []
numbers_in (w ∷ ws) bs = map from_bytes (chunks w 8 (drop 4 bs)) ∷ numbers_in ws (drop (4 + w * 8) bs)

-- section k, from 0; its number i
abbrev pub section_at : List (List ℕ) → ℕ → List ℕ
section_at ns k = get_or ns k []

abbrev pub number_at : List (List ℕ) → ℕ → ℕ → ℕ
number_at ns k i = get_or (section_at ns k) i 0

-- the periods done, and the tallies
abbrev pub done_in : List (List ℕ) → ℕ
done_in ns = number_at ns 0 3

abbrev pub diffuse_in : List (List ℕ) → ℕ
diffuse_in ns = number_at ns 7 0

abbrev pub heard_in : List (List ℕ) → ℕ
heard_in ns = number_at ns 7 1

abbrev pub news_in : List (List ℕ) → ℕ
news_in ns = number_at ns 7 2

abbrev pub state_in : List (List ℕ) → ℕ
state_in ns = number_at ns 7 3

abbrev pub cov_off_in : List (List ℕ) → ℕ
cov_off_in ns = number_at ns 7 4

abbrev pub mean_off_in : List (List ℕ) → ℕ
mean_off_in ns = number_at ns 7 5

-- ---- 15 BadSaved

-- a NaN with other bits
unfoldable pub other_nan : ℕ → Bool
other_nan k = is_nan (float k) && not (eqb k 0x7ff8000000000000)

-- p, m or r differing from the call; done plus stretch above 4096
unfoldable pub bad_sizes : ℕ → ℕ → ℕ → ℕ → List (List ℕ) → Bool
bad_sizes p m r n ns =
    not (eqb (number_at ns 0 0) p) || not (eqb (number_at ns 0 1) m) || not (eqb (number_at ns 0 2) r) || ltb 4096 (done_in ns + n)

-- diffuse periods above done, heard above done times p, news above heard, state not 0 or 1, a report above done
unfoldable pub bad_tallies : ℕ → List (List ℕ) → Bool
bad_tallies p ns =
    ltb (done_in ns) (diffuse_in ns) || ltb (done_in ns * p) (heard_in ns) || ltb (heard_in ns) (news_in ns) || ltb 1 (state_in ns)
    || ltb (done_in ns) (cov_off_in ns) || ltb (done_in ns) (mean_off_in ns)

unfoldable pub bad_floats : List (List ℕ) → Bool
bad_floats ns = let o : ℕ → Bool = λ k. any_of other_nan (section_at ns k) in o 1 || o 2 || o 3 || o 4 || o 5 || o 6

-- a wrong total length or count, or one of these. Spare root columns, mirroring, and P∞ against the diffuse state are not looked at.
unfoldable pub bad_saved : ℕ → ℕ → ℕ → ℕ → List ℕ → Bool
bad_saved p m r n bs =
    let ns = numbers_in (widths m) bs in
    not (eqb (length bs) (saved_need m)) || wrong_count (widths m) bs || bad_sizes p m r n ns || bad_tallies p ns || bad_floats ns

-- ---- what is loaded

unfoldable pub loaded_past : List (List ℕ) → Past
loaded_past ns =
    record {
      done = done_in ns;
      cov =
          record {
            star = map float (section_at ns 2);
            pinf = map float (section_at ns 3);
            root = map float (section_at ns 4);
            unres = map float (section_at ns 5);
            live = eqb (state_in ns) 1;
          };
      counts = record { d_diffuse = diffuse_in ns; heard = heard_in ns; news = news_in ns };
      cov_off = cov_off_in ns;
    }

unfoldable pub loaded_mean : List (List ℕ) → Mean
loaded_mean ns = record { a = map float (section_at ns 1); loglik = float (number_at ns 6 0) }
