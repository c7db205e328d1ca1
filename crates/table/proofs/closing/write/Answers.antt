-- By which of the two ran off.
use Rattle.table.proofs.Laws.{neither, mean_only, cov_only, both}
use Rattle.table.proofs.closing.write.Goals as goal

pub returns-then-mean-eq0 : goal.returns-then-mean-eq0
returns-then-mean-eq0 c = neither c.args.cov c.args.mean c.args.line.now c.if-cov-eq0.true c.if-mean-eq0.true

pub returns-then-cov-eq0 : goal.returns-then-cov-eq0
returns-then-cov-eq0 c = mean_only c.args.cov c.args.mean c.args.line.now _ _ _ _ c.if-cov-eq0.true c.if-mean-eq0.false c.part-to.ensures.0 c.text.ensures

pub returns-then-mean-eq0-2 : goal.returns-then-mean-eq0-2
returns-then-mean-eq0-2 c = cov_only c.args.cov c.args.mean c.args.line.now _ _ _ _ c.if-cov-eq0.false c.if-mean-eq0-2.true c.part-to-2.ensures.0 c.text-then-mean-eq0-2.ensures

pub returns : goal.returns
returns c = both c.args.cov c.args.mean c.args.line.now _ _ _ _ _ _ c.if-cov-eq0.false c.if-mean-eq0-2.false c.part-to-2.ensures.0 c.part-to-3.ensures.0 c.text-2.ensures
