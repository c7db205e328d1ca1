-- The place is within 64, and an entry of the view is one of the array.
use native.Mathlib.Omega.{arith}
use mathlib.Core.Path.{sym}
use Prim.Native.Nat.{◌<◌, ◌*◌, ◌+◌}
use Rattle.dense.proofs.Laws as laws
use Rattle.dense.proofs.cell.Goals as goal

place : (c : goal.Start) → c.args.i * c.args.c + c.args.j < 64
place c = laws.cell c.requires.rows c.requires.columns c.requires.row c.requires.column

pub overflow_mul-result : goal.overflow_mul-result
overflow_mul-result c = omega (arith, place c)

pub overflow_add-result : goal.overflow_add-result
overflow_add-result c = omega (arith, place c)

pub offset_bounds-a-i : goal.offset_bounds-a-i
offset_bounds-a-i c = omega (arith, place c)

pub bounds-a-i : goal.bounds-a-i
bounds-a-i c = place c

pub returns : goal.returns
returns c = sym (laws.rect_at c.args.r _ _ _ _ c.requires.row c.requires.column)
