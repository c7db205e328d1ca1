-- The count of those that pass is the definition's.
use mathlib.Core.Path.{◌≡◌, ◌∙◌}
use lib.ListN.{take}
use Rattle.std.specs.List.{count_by}
use Rattle.std.proofs.Common.{rules}
use Rattle.laws.specs.Kinds.{news_kind}
use Rattle.cov.proofs.Counting as counting
use Rattle.cov.proofs.counts.news.Goals as goal

pub returns : goal.returns
returns c = let k : c.count.result ≡ count_by news_kind (take c.args.n c.args.kinds.now) = search rules in k ∙ counting.counted news_kind (take c.args.n c.args.kinds.now)
