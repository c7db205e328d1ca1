-- What `project` ensures, of the element's row and variance.
use mathlib.Core.Path.{◌∙◌, ap₂}
use Rattle.star.specs.Views.{projected_at}
use Rattle.star.proofs.ask.Goals as goal

pub returns : goal.returns
returns c = c.project.ensures ∙ ap₂ (projected_at _) c.row_to_vec-z.ensures c.get.ensures
