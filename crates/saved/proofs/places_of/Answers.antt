-- The places are sums, and m · m is at most 64.
use native.Mathlib.Omega.{arith}
use Rattle.laws.specs.Sizes.{square_le}
use Rattle.saved.proofs.places_of.Goals as goal

pub returns : goal.returns
returns c =
    record {
      small = square_le c.args.m c.requires;
      star_is = omega arith;
      pinf_is = omega arith;
      root_is = omega arith;
      unres_is = omega arith;
      loglik_is = omega arith;
      tallies_is = omega arith;
      end_is = omega arith;
    }
