-- The small stretches of specs/Stretches.antt in one theorem: the definition gives what the oracle answers, writes and saves, bit for bit.
use Rattle.std.specs.Prelude.{T}
use Rattle.definition.specs.Computed.{hold}
use Rattle.demands.specs.StretchCall.{agreed}
use Rattle.demands.specs.Stretches.{stretches1, agrees1, stretches2, agrees2, stretches3, agrees3}

pub agrees : T (hold (agreed stretches1)) × T (hold (agreed stretches2)) × T (hold (agreed stretches3))
agrees = (agrees1, agrees2, agrees3)
