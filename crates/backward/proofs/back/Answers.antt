-- One pass after the other.
use Rattle.backward.proofs.back.Goals as goal

pub cov_back-requires : goal.cov_back-requires
cov_back-requires c = (c.requires.covs, c.requires.cov_room)
