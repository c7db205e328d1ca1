-- Each tally by its place.
use mathlib.Core.Path.{sym, ap, ◌∙◌}
use Prim.Native.Nat.{ℕ, ◌+◌}
use native.Mathlib.Omega.{arith}
use lib.Dec.{eqb}
use Rattle.definition.specs.Saved.{float}
use Rattle.saved.proofs.Rows as rows
use Rattle.saved.proofs.load_tallies.Goals as goal

pub returns : goal.returns
returns c =
    let bs = c.args.saved.now in
    let s = c.places_of-places.ensures in
    let at = c.places_of-places.result.tallies in
    record {
      done = c.done.ensures;
      live = ap (λ (k : ℕ). eqb k 1) (c.eight-7.ensures ∙ sym (rows.tally_there s bs 3 (at + 28) (omega arith) (omega arith)));
      loglik = c.double.ensures ∙ ap float (c.eight.ensures ∙ sym (rows.loglik_there s bs));
      diffuse = c.eight-2.ensures ∙ sym (rows.tally_there s bs 0 (at + 4) (omega arith) (omega arith));
      heard = c.eight-3.ensures ∙ sym (rows.tally_there s bs 1 (at + 12) (omega arith) (omega arith));
      news = c.eight-4.ensures ∙ sym (rows.tally_there s bs 2 (at + 20) (omega arith) (omega arith));
      cov_off = c.eight-5.ensures ∙ sym (rows.tally_there s bs 4 (at + 36) (omega arith) (omega arith));
      mean_off = c.eight-6.ensures ∙ sym (rows.tally_there s bs 5 (at + 44) (omega arith) (omega arith));
    }
