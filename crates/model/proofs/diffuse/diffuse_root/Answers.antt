-- Row by row, and entry by entry, the definition's; a row's one is in the column of its flag.
use native.Mathlib.Omega.{arith}
use mathlib.Core.Path.{◌≡◌, refl, ◌∙◌}
use Rattle.definition.specs.Inputs.{start_root, start_root_at}
use Rattle.dense.proofs.Laws as laws
use Rattle.model.proofs.Flags as before
use Rattle.model.proofs.diffuse.diffuse_root.Goals as goal

pub loop-i-init : goal.loop-i-init
loop-i-init c = (omega arith, refl, laws.grid_none _ _ _ _ refl, before.none_before _, omega arith)

pub loop-j-init : goal.loop-j-init
loop-j-init c = (omega arith, laws.row_none _ _ _ _ refl)

pub loop-j-preserved : goal.loop-j-preserved
unfolding start_root_at
loop-j-preserved c =
    let v : c.one_if-v.result ≡ start_root_at c.args.flags.now c.loop-i.i c.loop-j.j = cc in
    (omega arith, c.put.ensures ∙ laws.row_next _ _ _ _ _ _ _ refl c.loop-j.invariant.1 v)

pub loop-i-preserved : goal.loop-i-preserved
loop-i-preserved c = (omega arith, c.loop-i.invariant.1, laws.grid_next (start_root_at _) _ _ _ _ _ _ c.loop-j.invariant.1 c.loop-i.invariant.2 c.loop-j.invariant.0 c.loop-j-test.false, before.one_further _ _ _ _ (omega arith) c.loop-i.invariant.3 c.is_flagged-flagged.ensures, omega (arith, before.one_at_most c.is_flagged-flagged.result c.loop-i.column))

pub returns : goal.returns
unfolding start_root
returns c =
    laws.rect-grid _ _ _ _ _ (omega (arith, laws.area c.requires.0 c.requires.0, c.loop-i.invariant.1)) (laws.grid_end _ _ _ c.loop-i.invariant.2 c.loop-i.invariant.0 c.loop-i-test.false)
