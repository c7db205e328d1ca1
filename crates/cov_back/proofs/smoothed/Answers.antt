-- V as the definition puts it together.
use Rattle.cov_back.proofs.Laws as laws
use Rattle.dense.proofs.Laws as dense
use Rattle.cov_back.proofs.smoothed.Goals as goal

pub returns : goal.returns
returns c =
    laws.backed _ _ _ _ _ _ _ _ _ _ (dense.loaded_rect c.args.m c.args.m _ _ c.requires.1.1.0 c.fill.ensures) c.less_between.ensures c.less_if_diffuse.ensures c.symmetrize_in_place.ensures c.requires.1.0 c.save.ensures
