-- What is left of the text, from the state, gives the answer of the whole.
use Rattle.std.proofs.Common.{◌-◌, ◌≤◌, length, drop}
use Rattle.sheet.specs.Lines.{lines_of}
use Rattle.sheet.proofs.Walking.{Going}
use Rattle.sheet.proofs.sheets.read.Given as goal

abbrev pub invariant-lines : goal.invariant-lines
invariant-lines l = record {
  within : l.at ≤ length l.text;
  few_lines : l.lines ≤ l.at;
  going : Going l.table l.text l.initial.y (lines_of (drop l.at l.text)) l.given l.periods l.lines l.at l.y;
}

abbrev pub decreases-lines : goal.decreases-lines
decreases-lines l = length l.text - l.at
