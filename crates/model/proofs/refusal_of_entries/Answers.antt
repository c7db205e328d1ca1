-- The first of the segments that refuses, or none. What the noise requires comes from the first.
use mathlib.Core.Path.{sym}
use Rattle.std.proofs.Common.{rules}
use Rattle.definition.specs.Refusals.{of_system, of_start, of_h, of_readings}
use Rattle.promise.specs.Lent.{model_in, offsets_in}
use Rattle.model.specs.Past.{step_fits, noise_given}
use Rattle.model.proofs.InARow.{refuses, passes}
use Rattle.model.proofs.refusal_of_entries.Goals as goal

pub of_step-requires : goal.of_step-requires
of_step-requires c = (
  step_fits c.requires.0 c.requires.1,
  noise_given c.requires.0 c.requires.1 (sym c.in_ok-of_system.ensures),
)

-- ---- whose number it is: each segment's, past those before it

pub returns-in_err-of_system-clause-number : goal.returns-in_err-of_system-clause-number
returns-in_err-of_system-clause-number c = refuses (of_system (model_in c.args.x.now)) _ tt _ _ c.from_residual.ensures.1 c.in_err-of_system.ensures

pub returns-in_err-of_start-clause-number : goal.returns-in_err-of_start-clause-number
returns-in_err-of_start-clause-number c =
    let x = model_in c.args.x.now in
    passes (of_system x) _ tt (search rules)
    (refuses (of_start x (offsets_in c.args.o.now)) _ tt _ _ c.from_residual-in_err-of_start.ensures.1 c.in_err-of_start.ensures)

pub returns-in_err-of_h-clause-number : goal.returns-in_err-of_h-clause-number
returns-in_err-of_h-clause-number c =
    let x = model_in c.args.x.now in
    passes (of_system x) _ tt (search rules)
    (passes (of_start x (offsets_in c.args.o.now)) _ tt (search rules)
    (refuses (of_h x) _ tt _ _ c.from_residual-in_err-of_h.ensures.1 c.in_err-of_h.ensures))

pub returns-in_err-of_readings-clause-number : goal.returns-in_err-of_readings-clause-number
returns-in_err-of_readings-clause-number c =
    let x = model_in c.args.x.now in
    passes (of_system x) _ tt (search rules)
    (passes (of_start x (offsets_in c.args.o.now)) _ tt (search rules)
    (passes (of_h x) _ tt (search rules)
    (refuses (of_readings _) _ tt _ _ c.from_residual-in_err-of_readings.ensures.1 c.in_err-of_readings.ensures)))

pub returns-clause-number : goal.returns-clause-number
returns-clause-number c =
    let x = model_in c.args.x.now in
    passes (of_system x) _ tt (search rules)
    (passes (of_start x (offsets_in c.args.o.now)) _ tt (search rules)
    (passes (of_h x) _ tt (search rules)
    (passes (of_readings _) _ tt (search rules) c.of_step.ensures.number)))
