-- Four places, one after the other.
use Rattle.rows.proofs.Filling.{half}
use Rattle.rows.proofs.fill_half.Goals as goal

pub returns : goal.returns
returns c = half _ _ _ _ _ _ _ c.at.ensures c.at-2.ensures c.deviation.ensures c.at-3.ensures c.at-4.ensures c.deviation-2.ensures c.put.ensures c.put-2.ensures c.put-3.ensures c.put-4.ensures
