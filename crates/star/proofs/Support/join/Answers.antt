-- One place more.
use native.Mathlib.Omega.{arith}
use Rattle.star.proofs.Laws as laws
use Rattle.star.proofs.Support.join.Goals as goal

pub returns : goal.returns
returns c = laws.joined c.args.self.now c.args.j (omega (arith, c.requires))
