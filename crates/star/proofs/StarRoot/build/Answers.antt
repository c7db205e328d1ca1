-- The factor of P* on the support, with no update followed.
use Rattle.star.proofs.Laws as laws
use Rattle.star.proofs.StarRoot.build.Goals as goal

pub matrix_into-requires : goal.matrix_into-requires
matrix_into-requires c = laws.states_of _ _ _ _ c.find_support-self.ensures c.requires.1

pub returns : goal.returns
returns c = λ h. laws.built _ _ _ _ _ _ _ _ _ c.requires.1 c.find_support-self.ensures c.matrix_into.ensures c.pivoted_root-self.ensures.0 c.pivoted_root-self.ensures.1
