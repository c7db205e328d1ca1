-- Refusal 1, 2, one of the lists' reach, or the first after them. What the later ones require comes from the first two.
use mathlib.Core.Path.{sym}
use Rattle.std.proofs.Common.{rules}
use Rattle.definition.specs.Refusals.{of_sizes, of_lengths, of_reach, tests, refusal}
use Rattle.laws.specs.Accepted.{past_sizes, past_lengths}
use Rattle.promise.specs.Lent.{model_in, offsets_in}
use Rattle.model.proofs.InARow.{refuses, passes}
use Rattle.model.proofs.refusal.Goals as goal

-- ---- what is required

pub of_lengths-requires : goal.of_lengths-requires
of_lengths-requires c = past_sizes (model_in c.args.x.now) (sym c.in_ok-of_sizes.ensures)

pub of_reach-requires : goal.of_reach-requires
of_reach-requires c = let s = past_sizes (model_in c.args.x.now) (sym c.in_ok-of_sizes.ensures) in (s.p0, s.p8, s.m0, s.m8)

pub refusal_of_entries-requires : goal.refusal_of_entries-requires
refusal_of_entries-requires c =
    let x = model_in c.args.x.now in
    (past_sizes x (sym c.in_ok-of_sizes.ensures), (past_lengths x (offsets_in c.args.o.now) _ _ (sym c.in_ok-of_lengths.ensures)).0)

-- ---- whose number it is: each segment's, past those before it

pub returns-in_err-of_sizes-clause-number : goal.returns-in_err-of_sizes-clause-number
unfolding refusal tests
returns-in_err-of_sizes-clause-number c = refuses (of_sizes (model_in c.args.x.now)) _ tt _ _ c.from_residual.ensures.1 c.in_err-of_sizes.ensures

pub returns-in_err-of_lengths-clause-number : goal.returns-in_err-of_lengths-clause-number
unfolding refusal tests
returns-in_err-of_lengths-clause-number c =
    let x = model_in c.args.x.now in
    passes (of_sizes x) _ tt (search rules)
    (refuses (of_lengths x _ _ _) _ tt _ _ c.from_residual-in_err-of_lengths.ensures.1 c.in_err-of_lengths.ensures)

pub returns-in_err-of_reach-clause-number : goal.returns-in_err-of_reach-clause-number
unfolding refusal tests
returns-in_err-of_reach-clause-number c =
    let x = model_in c.args.x.now in
    passes (of_sizes x) _ tt (search rules)
    (passes (of_lengths x _ _ _) _ tt (search rules)
    (refuses (of_reach x _) _ tt _ _ c.from_residual-in_err-of_reach.ensures.1 c.in_err-of_reach.ensures))

pub returns-clause-number : goal.returns-clause-number
unfolding refusal tests
returns-clause-number c =
    let x = model_in c.args.x.now in
    passes (of_sizes x) _ tt (search rules)
    (passes (of_lengths x _ _ _) _ tt (search rules) (passes (of_reach x _) _ tt (search rules) c.refusal_of_entries.ensures.number))
