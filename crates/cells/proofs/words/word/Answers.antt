-- The field blank, then the word over the blanks.
use mathlib.Core.List.{◌++◌}
use Prim.Native.Nat.{◌+◌, ◌-◌, ◌<◌}
use native.Mathlib.Omega.{arith}
use lib.ListN.{length, replicate}
use Rattle.cells.proofs.Laws.{laid, yes, past_end}
use Rattle.cells.proofs.words.word.Goals.{then-out-at-via-then-out-at, then-out-at-via-else-out-at+then-out-at-2}
use Rattle.cells.proofs.words.word.Goals as goal

pub returns-then-out-at : goal.returns-then-out-at
returns-then-out-at c =
    let a = c.args in
    let past : length a.out.now < a.at + a.width =
    elim c.then-out-at.branch [
      | then-out-at-via-then-out-at w ↦ omega (arith, w.if-out-at.true)
      | then-out-at-via-else-out-at+then-out-at-2 w ↦ omega (arith, w.if-out-at.false, w.if-out-at-2.true)
    ] in
    let h = past_end (length a.text.now) a.at a.width _ a.out.now past in
    record { value = h.0; out_after = h.1 }

pub returns : goal.returns
returns c =
    let a = c.args in
    let n = length a.text.now in
    let h = yes n a.at a.width (replicate a.pad 32 ++ (a.text.now ++ replicate (a.width - (a.pad + n)) 32)) a.out.now _
    (omega (arith, c.if-out-at.false, c.if-out-at-2.false)) (omega (arith, c.requires))
    (laid a.out.now c.blanks.new.out a.text.now c.copy_from_slice.new.self a.at a.width a.pad (a.at + a.pad + n - (a.at + a.pad))
    (omega (arith, c.if-out-at.false, c.if-out-at-2.false)) c.requires (omega arith) c.blanks.ensures c.copy_from_slice.ensures.after) in
    record { value = h.0; out_after = h.1 }
