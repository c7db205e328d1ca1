-- The refusals' numbers: document 01's twelve, and document 02's 14 and 15.
use Rattle.std.specs.Prelude.{ℕ}
use Rattle.promise.specs.declared.Refusal.{Refusal}
use Rattle.promise.specs.declared.Refusal.TheVariants.{Dimension, Length, NonFiniteSystem, NotPsd, QNotDiagonal, NonFiniteStart, StartShape, NonDiagonalH, InfiniteReading, MixedDriven, NonFiniteNoise, NoInformation, ListShort, BadSaved}

abbrev pub number : Refusal → ℕ
number Dimension = 1
number Length = 2
number NonFiniteSystem = 3
number NotPsd = 4
number QNotDiagonal = 5
number NonFiniteStart = 6
number StartShape = 7
number NonDiagonalH = 8
number InfiniteReading = 9
number MixedDriven = 10
number NonFiniteNoise = 11
number NoInformation = 12
number ListShort = 14
number BadSaved = 15
