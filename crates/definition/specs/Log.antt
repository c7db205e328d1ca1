-- Document 01's natural logarithm, an ordered list of operations on doubles ("Arithmetic", last point), in its notation: x = 2^k s, u, w, q, HI, LO.
use Rattle.std.specs.Prelude.{ℕ, zero, suc, ◌+◌, ◌-◌, ◌*◌, ◌^◌, true, false, cond, ℤ, pos, negsuc, Float}
use Rattle.std.specs.Float.{nan, inf, fin, binary64}
use Rattle.std.specs.Float.Ieee.{minus, size, round, lt, of_int, of_bits}
use Rattle.definition.specs.Num.{◌⊕◌, ◌⊖◌, ◌⊗◌, ◌⊘◌}
use Rattle.definition.specs.Root.{smallests_in}

abbrev pub one : Float
one = fin false 1 (pos 0)

abbrev pub half : Float
half = fin false 1 (negsuc 0)

-- 1.5
abbrev pub middle : Float
middle = fin false 3 (negsuc 0)

abbrev pub HI : Float
HI = of_bits binary64 0x3FE62E42FEE00000

abbrev pub LO : Float
LO = of_bits binary64 0x3DEA39EF35793C76

-- the table: the double that is nearest to 1 / (2 * i + 1)
unfoldable pub coefficient : ℕ → Float
coefficient i = round binary64 false 1 (2 * i + 1)

-- the polynomial in w, from the last coefficient, the one at n, down j steps: q = q w + next
unfoldable pub series : Float → ℕ → ℕ → Float
series w n zero = coefficient n
series w n (suc j) = series w n j ⊗ w ⊕ coefficient (n - suc j)

-- of 2^k s, with s from 0.75 up to 1.5: k HI + (k LO + (u + u) q)
unfoldable pub log_of : ℤ → Float → Float
log_of k s =
    let u = (s ⊖ one) ⊘ (s ⊕ one) in
    let w = u ⊗ u in
    let q = series w 11 11 in
    let kᶠ = of_int binary64 k in
    kᶠ ⊗ HI ⊕ (kᶠ ⊗ LO ⊕ (u ⊕ u) ⊗ q)

-- of 2^(j - 1074) s, with s from 1 up to 2: from 1.5 on s is halved and k raised
unfoldable pub reduced : ℕ → Float → Float
reduced j s = cond (lt s middle) (log_of (minus j 1074) s) (log_of (minus (j + 1) 1074) (s ⊗ half))

-- n smallest values, 2^-1074, with n of j + 1 digits: 2^(j - 1074) (n / 2^j). So a subnormal needs no scaling first: its n / 2^j is the s that
-- document 01 has after the scaling by 2^54, and its k the one less 54
unfoldable pub log_count : ℕ → Float
log_count n = let j = size n - 1 in reduced j (round binary64 false n (2 ^ j))

unfoldable pub ln_of : Float → Float
ln_of nan = nan
ln_of (inf true) = nan
ln_of (inf false) = inf false
ln_of (fin s zero e) = inf true
ln_of (fin true (suc m) e) = nan
ln_of (fin false (suc m) e) = log_count (smallests_in binary64 (fin false (suc m) e))

-- ln 2π: the logarithm of twice 0x400921FB54442D18
unfoldable pub ln_two_pi : Float
ln_two_pi = ln_of (fin false 1 (pos 1) ⊗ of_bits binary64 0x400921FB54442D18)
