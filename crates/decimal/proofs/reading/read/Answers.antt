-- The stretch is cut to the text.
use Rattle.std.proofs.Common.{Bor, List, ℕ, refl, ap, ◌∙◌}
use Rattle.decimal.specs.Reading.{read_of}
use Rattle.decimal.proofs.Numbers.{got}
use Rattle.decimal.proofs.reading.read.Goals as goal

pub returns : goal.returns
returns c =
    let a = c.args in
    c.read_all.ensures
    ∙ ap read_of (ap (λ (b : Bor (List ℕ)). b.now) c.unwrap_or.ensures ∙ got a.text.now a.from a.to c.min.result c.get.result _ c.min.ensures refl c.get.ensures.lookup.0)
