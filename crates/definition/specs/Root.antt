-- The square root of IEEE 754: the value of the format that is nearest to the real root, a tie to the even one.
-- Document 01, "Arithmetic": correctly rounded; +infinity, NaN and both zeros give themselves, all below 0 gives NaN.
-- There are no real numbers here, so what is compared with the real root is compared by its square.
use Prim.Native.Nat.{ℕ, zero, suc, ◌+◌, ◌-◌, ◌*◌, ◌/◌, ◌^◌, compare}
use Rattle.std.specs.Prelude.{true, false, cond, leb, Float}
use Rattle.std.specs.Float.{nan, inf, fin, Format, binary64}
use Rattle.std.specs.Float.Ieee.{prec, low, size, nearest, units}
use Rattle.std.specs.Float.Ieee.Positive.{num, den}

-- The root of n, cut to a whole number, for an n below 4 ^ k: the largest r with r * r ≤ n. It is twice the root of n / 4, or one more.
unfoldable pub cut_root : ℕ → ℕ → ℕ
cut_root zero n = 0
cut_root (suc k) n = let r = 2 * cut_root k (n / 4) in cond (leb ((r + 1) * (r + 1)) n) (r + 1) r

-- n is below 2 ^ size n, which is at most 4 ^ size n
unfoldable pub isqrt : ℕ → ℕ
isqrt n = cut_root (size n) n

-- how many of the format's smallest values, 2 ^ -low, a finite value's magnitude is: a whole number of them, where the format holds the value
unfoldable pub smallests_in : Format → Float → ℕ
smallests_in f x = num x * 2 ^ low f / den x

-- The root of n smallest values, n above zero, rounded to nearest. It is the root of N = n * 2 ^ low, in smallest values.
-- Of its whole part, which has (size N + 1) / 2 digits, the format keeps the `prec` leading digits, q, and drops k. So the result is q * 2 ^ k
-- smallest values, or (q + 1) * 2 ^ k: by how the root compares with the number half way between the two, (2 * q + 1) * 2 ^ k / 2.
unfoldable pub root_of : Format → ℕ → Float
root_of f n =
    let N = n * 2 ^ low f in
    let k = (size N + 1) / 2 - prec f in
    let q = isqrt (N / 4 ^ k) in
    units f false (nearest q (compare (4 * N) ((2 * q + 1) * (2 * q + 1) * 4 ^ k))) k

-- a zero is its own root, and all below zero has none
unfoldable pub sqrt_in : Format → Float → Float
sqrt_in f nan = nan
sqrt_in f (inf true) = nan
sqrt_in f (inf false) = inf false
sqrt_in f (fin s zero e) = fin s zero e
sqrt_in f (fin true (suc m) e) = nan
sqrt_in f (fin false (suc m) e) = root_of f (smallests_in f (fin false (suc m) e))

abbrev pub sqrt_of : Float → Float
sqrt_of x = sqrt_in binary64 x
