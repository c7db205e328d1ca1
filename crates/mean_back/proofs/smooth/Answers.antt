-- The smoothed mean over what each call left.
use Rattle.dense.proofs.Laws.{loaded_vec, saved_vec}
use Rattle.mean_back.proofs.Laws as laws
use Rattle.mean_back.proofs.smooth.Goals as goal

pub returns : goal.returns
returns c = laws.smoothed _ _ _ _ _ _ _ _ _ _ (loaded_vec _ _ c.requires.pred c.load-x.ensures) c.add_product.ensures c.add_diffuse.ensures (saved_vec _ c.requires.out c.save.ensures)
