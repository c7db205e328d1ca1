-- Each entry is shrunk.
use Prim.Native.Nat.{ℕ}
use mathlib.Core.Path.{refl}
use lib.Ieee.{Float}
use Rattle.definition.specs.Num.{◌⊖◌, ◌⊗◌, at}
use Rattle.dense.specs.Views.{vec}
use Rattle.definition.specs.Star.{shrunk_at}
use Rattle.star.proofs.StarRoot.shrink.Goals as goal

pub returns : goal.returns
unfolding shrunk_at
returns c =
    let a = c.args in
    let s = c.args.self.now in
    record {
      support = refl;
      rank = refl;
      cols = c.change.ensures (λ (x : Float) (l i : ℕ). x ⊖ a.g ⊗ at (vec s.support.count a.w.now) i ⊗ at (vec s.rank a.u.now) l) (λ x l i v h k p. cc);
    }
