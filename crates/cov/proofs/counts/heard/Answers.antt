-- The count of those that pass is the definition's.
use mathlib.Core.Path.{◌≡◌, ◌∙◌}
use mathlib.Core.Bool.{not}
use lib.Ieee.{Float, is_nan}
use Rattle.std.specs.List.{count_by}
use Rattle.std.proofs.Common.{rules}
use Rattle.cov.proofs.Counting as counting
use Rattle.cov.proofs.counts.heard.Goals as goal

pub returns : goal.returns
returns c = let k : c.count.result ≡ count_by (λ (x : Float). not (is_nan x)) c.args.y.now = search rules in k ∙ counting.heard_lem c.args.y.now
