-- The only double that is a NaN.
use mathlib.Core.Path.{◌≡◌, refl}
use mathlib.Core.Bool.{true, false≢true}
use lib.Ieee.{Float, nan, inf, fin, is_nan}

pub only : (x : Float) → is_nan x ≡ true → nan ≡ x
unfolding is_nan
only nan e = refl
only (inf s) e = absurd (false≢true e)
only (fin s m z) e = absurd (false≢true e)
