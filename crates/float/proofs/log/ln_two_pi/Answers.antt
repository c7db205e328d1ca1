-- The constant, computed from the definition.
use mathlib.Core.Path.{◌≡◌, refl}
use lib.Ieee.{binary64, of_bits, add, sub, mul, div, lt, round, of_int}
use Rattle.definition.specs.Root.{smallests_in}
use Rattle.definition.specs.Log.{ln_two_pi, ln_of, log_count, reduced, log_of, series, coefficient}
use Rattle.float.proofs.log.ln_two_pi.Goals as goal

ln-two-pi : of_bits binary64 0x3FFD67F1C864BEB4 ≡ ln_two_pi
unfolding ln_two_pi ln_of log_count reduced log_of series coefficient smallests_in of_bits add sub mul div lt round of_int
ln-two-pi = refl

pub returns : goal.returns
returns c = ln-two-pi
