-- At most 8 rows of 8 cells.
use Rattle.dense.proofs.Laws.{area}
use Rattle.std.proofs.Common.{arith}
use Rattle.leaf_tests.proofs.matrices.cells.Goals as goal

pub overflow_mul-result : goal.overflow_mul-result
overflow_mul-result c = omega (arith, area c.requires.0 c.requires.1)

pub returns : goal.returns
returns c = area c.requires.0 c.requires.1
