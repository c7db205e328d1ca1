-- By the size.
use Rattle.model.proofs.noise.add_sized.Goals as goal

pub add_disturbance-requires : goal.add_disturbance-requires
add_disturbance-requires c = rw c.in-1.is at c.requires

pub add_disturbance-requires-in-2 : goal.add_disturbance-requires-in-2
add_disturbance-requires-in-2 c = rw c.in-2.is at c.requires

pub add_disturbance-requires-in-4 : goal.add_disturbance-requires-in-4
add_disturbance-requires-in-4 c = rw c.in-4.is at c.requires

pub add_disturbance-requires-in-8 : goal.add_disturbance-requires-in-8
add_disturbance-requires-in-8 c = rw c.in-8.is at c.requires

pub add_disturbance-requires-in_default : goal.add_disturbance-requires-in_default
add_disturbance-requires-in_default c = c.requires

pub returns-in-1 : goal.returns-in-1
returns-in-1 c = rw c.in-1.is c.add_disturbance.ensures

pub returns-in-2 : goal.returns-in-2
returns-in-2 c = rw c.in-2.is c.add_disturbance-in-2.ensures

pub returns-in-4 : goal.returns-in-4
returns-in-4 c = rw c.in-4.is c.add_disturbance-in-4.ensures

pub returns-in-8 : goal.returns-in-8
returns-in-8 c = rw c.in-8.is c.add_disturbance-in-8.ensures

pub returns-in_default : goal.returns-in_default
returns-in_default c = c.add_disturbance-in_default.ensures
