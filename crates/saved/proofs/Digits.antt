-- One number: its bytes read and written, four and eight.
use mathlib.Core.Path.{◌≡◌, refl, sym, ap, ap₂, ◌∙◌}
use Prim.Native.Nat.{ℕ, zero, suc, ◌+◌, ◌*◌, ◌/◌, ◌%◌, ◌^◌, ◌<◌}
use native.Mathlib.Nat.{mod-lt, mod-eq_of_lt, one-le-pow}
use native.Mathlib.Omega.{arith}
use mathlib.Core.List.{List, [], ◌∷◌}
use lib.ListN.{length, get_or}
use lib.Arith.{mod-mul, digits_div, digits_mod}
use lib.Pow.{pow-add}
use Rattle.std.specs.Int.{w32, w64, byte_at, bytes_low_first, bytes_high_first, from_be_bytes, to_be_bytes, to_le_bytes, swap_bytes}
use Rattle.std.proofs.lemmas.Nat.{be_bytes_4, be_bytes_8}
use Rattle.definition.specs.Saved.{bytes_of, from_bytes}

-- ---- read

pub from_four : (l : List ℕ) → length l ≡ 4 → from_be_bytes w32 l ≡ from_bytes l
unfolding from_bytes
from_four [] h = absurd (omega arith)
from_four (a ∷ []) h = absurd (omega arith)
from_four (a ∷ b ∷ []) h = absurd (omega arith)
from_four (a ∷ b ∷ c ∷ []) h = absurd (omega arith)
from_four (a ∷ b ∷ c ∷ d ∷ []) h = omega arith
from_four (a ∷ b ∷ c ∷ d ∷ x ∷ l) h = absurd (omega arith)

pub from_eight : (l : List ℕ) → length l ≡ 8 → from_be_bytes w64 l ≡ from_bytes l
unfolding from_bytes
from_eight [] h = absurd (omega arith)
from_eight (a ∷ []) h = absurd (omega arith)
from_eight (a ∷ b ∷ []) h = absurd (omega arith)
from_eight (a ∷ b ∷ c ∷ []) h = absurd (omega arith)
from_eight (a ∷ b ∷ c ∷ d ∷ []) h = absurd (omega arith)
from_eight (a ∷ b ∷ c ∷ d ∷ e ∷ []) h = absurd (omega arith)
from_eight (a ∷ b ∷ c ∷ d ∷ e ∷ f ∷ []) h = absurd (omega arith)
from_eight (a ∷ b ∷ c ∷ d ∷ e ∷ f ∷ g ∷ []) h = absurd (omega arith)
from_eight (a ∷ b ∷ c ∷ d ∷ e ∷ f ∷ g ∷ i ∷ []) h = omega arith
from_eight (a ∷ b ∷ c ∷ d ∷ e ∷ f ∷ g ∷ i ∷ x ∷ l) h = absurd (omega arith)

-- ---- written

positive : (k : ℕ) → 0 < 256 ^ k
positive k = one-le-pow k 256 (omega arith)

-- v over a · b, and over b
module _ (v a b : ℕ) (some : 0 < a) (pos : 0 < b) where
  low : v % (a * b) % b ≡ v % b
  low = ap (λ (i : ℕ). i % b) (mod-mul v some pos) ∙ digits_mod (v / b % a) (mod-lt v pos)

  high : v % (a * b) / b ≡ v / b % a
  high = ap (λ (i : ℕ). i / b) (mod-mul v some pos) ∙ digits_div (v / b % a) (mod-lt v pos)

power : (k : ℕ) → 256 ^ suc k ≡ 256 * 256 ^ k
power k = let e : suc k ≡ 1 + k = omega arith in ap (λ (i : ℕ). 256 ^ i) e ∙ pow-add 256 1 k

byte_is : (k v : ℕ) → byte_at k v ≡ v % 256 ^ suc k / 256 ^ k
byte_is zero v = omega arith
byte_is (suc k) v = sym (ap (λ (i : ℕ). v % i / 256 ^ suc k) (power (suc k)) ∙ high v 256 (256 ^ suc k) (omega arith) (positive (suc k)))

high_first : (k v : ℕ) → bytes_high_first k v ≡ bytes_of k (v % 256 ^ k)
unfolding bytes_of
high_first zero v = refl
high_first (suc k) v =
    let rest : v % 256 ^ suc k % 256 ^ k ≡ v % 256 ^ k = ap (λ (i : ℕ). v % i % 256 ^ k) (power k) ∙ low v 256 (256 ^ k) (omega arith) (positive k) in
    ap₂ (λ (x : ℕ) (l : List ℕ). x ∷ l) (byte_is k v) (high_first k v ∙ ap (bytes_of k) (sym rest))

-- the bytes that std writes are the definition's
pub bytes_are : (k v : ℕ) → v < 256 ^ k → bytes_high_first k v ≡ bytes_of k v
bytes_are k v h = high_first k v ∙ ap (bytes_of k) (mod-eq_of_lt h)

-- turned in a register, and written from the least on
low_byte : (k v : ℕ) → byte_at k v < 256
low_byte zero v = omega arith
low_byte (suc k) v = omega arith

low_bytes : (j k v i : ℕ) → get_or (bytes_low_first j k v) i 0 < 256
low_bytes j zero v i = omega arith
low_bytes j (suc k) v zero = low_byte j v
low_bytes j (suc k) v (suc i) = low_bytes (suc j) k v i

pub turned_four : (v w : ℕ) → w ≡ swap_bytes w32 v → to_le_bytes w32 w ≡ bytes_high_first 4 v
turned_four v w e = let f : to_be_bytes w32 w ≡ to_le_bytes w32 v = be_bytes_4 (to_le_bytes w32 v) w refl (low_bytes 0 4 v) e in cc

pub turned_eight : (v w : ℕ) → w ≡ swap_bytes w64 v → to_le_bytes w64 w ≡ bytes_high_first 8 v
turned_eight v w e = let f : to_be_bytes w64 w ≡ to_le_bytes w64 v = be_bytes_8 (to_le_bytes w64 v) w refl (low_bytes 0 8 v) e in cc
