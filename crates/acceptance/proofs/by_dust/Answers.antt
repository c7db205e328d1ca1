-- What is found, by the dust test's verdict.
use Rattle.acceptance.proofs.Laws as laws
use Rattle.acceptance.proofs.by_dust.Goals as goal

pub returns-then-live : goal.returns-then-live
returns-then-live c = laws.ruled_live _ _ _ c.in-Suspect.is c.if-live.true

pub returns-in-Clear : goal.returns-in-Clear
returns-in-Clear c = laws.ruled_clear _ _ c.in-Clear.is

pub returns-in-Below : goal.returns-in-Below
returns-in-Below c = laws.ruled_below _ _ c.in-Below.is

pub returns-else-live : goal.returns-else-live
returns-else-live c = laws.ruled_doubt _ _ _ c.in-Suspect.is c.if-live.false
