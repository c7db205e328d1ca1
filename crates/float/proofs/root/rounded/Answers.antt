-- By the exact test beside the guess, or by the long way.
use native.Mathlib.Omega.{arith}
use Rattle.float.proofs.Roots.{picked, long_small, long_way}
use Rattle.float.proofs.root.rounded.Goals as goal

pub overflow_add-result-in-None : goal.overflow_add-result-in-None
overflow_add-result-in-None c = let h = long_small c.args.m c.long_root.result c.requires.1 c.long_root.ensures in omega arith

pub returns-in-None : goal.returns-in-None
returns-in-None c = long_way c.args.m c.long_root.result c.requires.0 c.long_root.ensures

pub returns-in-Some : goal.returns-in-Some
returns-in-Some c = picked c.args.m c.guess-g.result c.in-Some.u c.guess-g.ensures.0 c.in-Some.ensures
