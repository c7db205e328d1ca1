-- A sheet that is well has at most 4096 periods.
use Rattle.std.specs.Prelude.{◌≡◌, Result, Ok, Err, is_ok, MatchResult}
use Rattle.std.proofs.Common.{sym, ◌∙◌}
use Rattle.sheet.specs.Good.{good}
use Rattle.power_cycle.proofs.run.Goals as goal

-- what is well after its Err was mapped was well before
was_ok : {A E D : Type 0} (P : E → Type 0) (r : Result A E) (s : Result A D) (x : A) → MatchResult r (λ y. s ≡ Ok y) P → is_ok s ≡ is_ok r → s ≡ Ok x → r ≡ Ok x
was_ok P (Ok y) s x m v e = cc
was_ok P (Err f) s x m v e = cc

pub show-requires : goal.show-requires
show-requires g c = (good _ _ _ (sym c.read.ensures.value ∙ was_ok _ _ _ _ c.map_err.ensures.cases c.map_err.ensures.variant c.in_ok-sheet.was)).few
