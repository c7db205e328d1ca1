-- The part that is handed out lies within the list, and begins at the entry that the definition picks.
use mathlib.Core.Path.{◌≡◌, refl}
use Prim.Native.Nat.{ℕ, ◌+◌, ◌-◌, ◌*◌, ◌/◌, ◌≤◌, min}
use native.Mathlib.Nat.{add-sub_cancel_left}
use native.Mathlib.Omega.{arith}
use borrow.Author.Tests.{eq-eqb, ne_eqb}
use Rattle.definition.specs.Inputs.{part_from}
use Rattle.dense.proofs.Laws.{area}
use Rattle.model.specs.Lists.{PartFits, whole_list, entry_of}
use Rattle.model.proofs.lists.part.Goals as goal

-- past the test there is a list, and the part ends within it
ends : {p m once list a : ℕ} (t : ℕ) → PartFits p m once list → (list ≡ 0 → ⊥) → a ≡ min t (list / (p * m) - 1) * (p * m) → a + p * m ≤ list
ends t f h e = rw e (entry_of t (whole_list f.chosen h))

pub returns-then-list-eq0 : goal.returns-then-list-eq0
unfolding part_from
returns-then-list-eq0 c = rw (eq-eqb _ _ c.if-list-eq0.true) refl

pub overflow_mul-k : goal.overflow_mul-k
overflow_mul-k c = omega (arith, area c.requires.0.p8 c.requires.0.m8)

pub entry_from-a-requires : goal.entry_from-a-requires
entry_from-a-requires c = (whole_list c.requires.0.chosen c.if-list-eq0.false, area c.requires.0.p8 c.requires.0.m8, c.requires.1)

pub overflow_add-e : goal.overflow_add-e
overflow_add-e c = omega (arith, ends c.args.t c.requires.0 c.if-list-eq0.false c.entry_from-a.ensures)

pub offset_bounds-list-a : goal.offset_bounds-list-a
offset_bounds-list-a c = omega (arith, ends c.args.t c.requires.0 c.if-list-eq0.false c.entry_from-a.ensures)

pub slice_bounds-result-end : goal.slice_bounds-result-end
slice_bounds-result-end c = omega (arith, ends c.args.t c.requires.0 c.if-list-eq0.false c.entry_from-a.ensures)

pub returns : goal.returns
unfolding part_from
returns c = rw (ne_eqb _ _ c.if-list-eq0.false, add-sub_cancel_left, c.entry_from-a.ensures) refl
