-- Each entry is the definition's.
use Rattle.definition.specs.Inputs.{start_inf, start_inf_at}
use Rattle.model.proofs.diffuse.diffuse_cov.Goals as goal

pub returns : goal.returns
unfolding start_inf start_inf_at
returns c = c.matrix_into.ensures (start_inf_at c.args.flags.now) (λ i j v h k p. cc)
