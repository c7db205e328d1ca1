-- None of a wide or a long call; else n·p.
use Rattle.std.proofs.Common.{⊎_elim}
use Rattle.records.proofs.Laws.{none_wide, none_long, all_of}
use Rattle.records.proofs.in_all.Goals as goal

pub returns-then-n-gt4096 : goal.returns-then-n-gt4096
returns-then-n-gt4096 c = ⊎_elim (none_wide _ _) (λ h. none_long _ _ h.0 h.1) c.if-n-gt4096.either

pub returns-else-n-gt4096 : goal.returns-else-n-gt4096
returns-else-n-gt4096 c = let h = c.if-n-gt4096.false in all_of _ _ h.0 h.1
