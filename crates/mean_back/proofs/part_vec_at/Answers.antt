-- A term more, or none where x is 0; at the end all of the row.
use native.Mathlib.Omega.{arith}
use Rattle.definition.specs.Dense.{mat_vec_at}
use Rattle.dense.proofs.Laws as sums
use Rattle.mean_back.proofs.Laws as laws
use Rattle.mean_back.proofs.part_vec_at.Goals as goal

pub loop-j-init : goal.loop-j-init
loop-j-init c = (omega arith, sums.but_none _ _)

pub loop-j-preserved : goal.loop-j-preserved
loop-j-preserved c = (omega arith, laws.kept_next _ _ _ _ _ c.loop-j.invariant.1 c.nth.ensures c.plus_kept-s.ensures)

pub returns : goal.returns
unfolding mat_vec_at
returns c = sums.but_end _ _ c.loop-j.invariant.1 c.loop-j.invariant.0 c.loop-j-test.false
