-- What is found, by the dust test's verdict and F by the star root.
use Rattle.acceptance.proofs.Laws as laws
use Rattle.acceptance.proofs.by_root.Goals as goal

pub returns-then-again-reference : goal.returns-then-again-reference
returns-then-again-reference c = laws.root_yes _ _ _ c.in-Suspect.is c.if-again-reference.true

pub returns-in-Clear : goal.returns-in-Clear
returns-in-Clear c = laws.root_clear _ _ c.in-Clear.is

pub returns-in-Below : goal.returns-in-Below
returns-in-Below c = laws.root_below _ _ c.in-Below.is

pub returns-else-again-reference : goal.returns-else-again-reference
returns-else-again-reference c = laws.root_no _ _ _ c.in-Suspect.is c.if-again-reference.false
