-- What the kind tells is the decision that the passes read there.
use Rattle.record.specs.Decisions.{flat_of}
use Rattle.cov_back.proofs.Laws as laws
use Rattle.cov_back.proofs.element.Goals as goal

pub returns : goal.returns
returns c = let a = c.args in laws.element_back a.m a.i a.k a.live a.design.now (flat_of a.left.now) _ _ c.kind_from-kind.ensures c.back_element.ensures
