-- The place is within 64.
use native.Mathlib.Omega.{arith}
use mathlib.Core.Path.{refl}
use Prim.Native.Nat.{◌<◌, ◌*◌, ◌+◌}
use Rattle.dense.proofs.Laws as laws
use Rattle.dense.proofs.set_cell.Goals as goal

place : (c : goal.Start) → c.args.i * c.args.c + c.args.j < 64
place c = laws.cell c.requires.rows c.requires.columns c.requires.row c.requires.column

pub overflow_mul-a : goal.overflow_mul-a
overflow_mul-a c = omega (arith, place c)

pub overflow_add-a : goal.overflow_add-a
overflow_add-a c = omega (arith, place c)

pub offset_bounds-a-i : goal.offset_bounds-a-i
offset_bounds-a-i c = omega (arith, place c)

pub bounds-a-i : goal.bounds-a-i
bounds-a-i c = place c

pub returns : goal.returns
returns c = refl
