-- What is left of the list begins within it.
use mathlib.Core.Path.{◌≡◌, refl, ap, ◌∙◌}
use Prim.Native.Nat.{ℕ, zero, suc, ◌-◌, ◌*◌, ◌/◌, ◌≤◌, min}
use native.Mathlib.Omega.{arith}
use mathlib.Core.List.{List, [], ◌∷◌}
use lib.ListN.{length, take, drop, length-drop}
use lib.Seq.{take_all}
use lib.Ieee.{Float}
use Rattle.laws.specs.Later.{later_from}
use Rattle.dense.proofs.Laws.{area}
use Rattle.model.specs.Lists.{Whole, entry_of}
use Rattle.model.proofs.lists.later.Goals as goal

none : (i : ℕ) (list : List Float) → length list ≡ 0 → list ≡ drop i list
none zero [] e = refl
none (suc i) [] e = refl
none i (x ∷ list) e = absurd (omega arith)

-- the entry that the next period takes begins within the list
within : {k list from : ℕ} (t : ℕ) → Whole k list → from ≡ min t (list / k - 1) * k → from ≤ list
within t s e = omega (arith, entry_of t s)

rest : (a : ℕ) (list : List Float) → take (length list - a) (drop a list) ≡ drop a list
rest a list = take_all (length list - a) (drop a list) (simp length-drop (omega arith))

pub returns-then-list-eq0 : goal.returns-then-list-eq0
unfolding later_from
returns-then-list-eq0 c = let a = c.args in let k = a.p * a.m in none (min a.done (length a.list.now / k - 1) * k) _ c.if-list-eq0.true

pub overflow_mul-p : goal.overflow_mul-p
overflow_mul-p c = omega (arith, area c.requires.0 c.requires.1)

pub entry_from-from-requires : goal.entry_from-from-requires
entry_from-from-requires c = (c.requires.3 c.if-list-eq0.false, area c.requires.0 c.requires.1, c.requires.2)

pub offset_bounds-list-from : goal.offset_bounds-list-from
offset_bounds-list-from c = omega (arith, within c.args.done (c.requires.3 c.if-list-eq0.false) c.entry_from-from.ensures)

pub slice_bounds-result-count : goal.slice_bounds-result-count
slice_bounds-result-count c = within c.args.done (c.requires.3 c.if-list-eq0.false) c.entry_from-from.ensures

pub slice_bounds-result-start : goal.slice_bounds-result-start
slice_bounds-result-start c = within c.args.done (c.requires.3 c.if-list-eq0.false) c.entry_from-from.ensures

pub returns : goal.returns
unfolding later_from
returns c = rest c.entry_from-from.result c.args.list.now ∙ ap (λ (i : ℕ). drop i c.args.list.now) c.entry_from-from.ensures
