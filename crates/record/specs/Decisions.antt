-- The flat parts that hold a run's decisions, as laws has them.
use Rattle.laws.specs.Flat.{Flat, flat_in}
use Rattle.promise.specs.declared.Decisions.{Decisions}

abbrev pub flat_of : Decisions → Flat
flat_of x = flat_in x.kinds.now x.f_star.now x.f_inf.now x.m_star.now x.m_inf.now
