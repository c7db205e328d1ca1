-- The filter's parts, three groups one after the other.
use Rattle.blank.proofs.filtered.Goals as goal

pub means-requires : goal.means-requires
means-requires c = c.requires.0

pub covs-requires : goal.covs-requires
covs-requires c = c.requires.1

pub records-requires : goal.records-requires
records-requires c = c.requires.2

pub returns : goal.returns
returns c = (c.means.ensures, c.covs.ensures, c.records.ensures)
