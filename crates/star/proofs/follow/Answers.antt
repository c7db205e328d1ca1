-- What `downdate` ensures, of the element's row and variance.
use Rattle.star.proofs.Laws as laws
use Rattle.star.proofs.follow.Goals as goal

pub returns : goal.returns
returns c = laws.downdated_by c.row_to_vec-z.ensures c.get.ensures c.downdate.ensures
