-- By the tests: it fits, or nothing is written.
use Rattle.std.proofs.Common.{◌≡◌, false, length, arith}
use Rattle.decimal.specs.Printed.{fits_in}
use Rattle.decimal.proofs.Printing.{past_end, too_wide, not_put, needed, put_by}
use Rattle.decimal.proofs.printed.put.Goals.{then-out-at-via-then-out-at, then-out-at-via-else-out-at+then-out-at-2, then-out-at-via-else-out-at+else-out-at-2+then-width-need}
use Rattle.decimal.proofs.printed.put.Goals as goal

pub returns-then-out-at : goal.returns-then-out-at
returns-then-out-at c =
    let a = c.args in
    let refused : fits_in (length a.out.now) a.at a.width a.decimals a.n.minus a.n.size ≡ false =
    elim c.then-out-at.branch [
      | then-out-at-via-then-out-at w ↦ past_end (length a.out.now) a.at a.width a.decimals a.n.minus a.n.size (omega (arith, w.if-out-at.true))
      | then-out-at-via-else-out-at+then-out-at-2 w ↦ past_end (length a.out.now) a.at a.width a.decimals a.n.minus a.n.size (omega (arith, w.if-out-at.false, w.if-out-at-2.true))
      | then-out-at-via-else-out-at+else-out-at-2+then-width-need w ↦
          let n = needed a.decimals a.n.minus a.n.size c.ten_to-p.result c.places-k.result c.sign_width.result c.point_width.result
          c.ten_to-p.ensures.0 c.places-k.ensures.0 c.sign_width.ensures.0 c.point_width.ensures.0 in
          too_wide (length a.out.now) a.at a.width a.decimals a.n.minus a.n.size (omega (arith, w.if-width-need.true))
    ] in
    let h = not_put a.out.now a.at a.width a.decimals a.n.minus a.n.size refused in
    record { value = h.0; out_after = h.1 }

pub returns : goal.returns
returns c =
    let a = c.args in
    let h = put_by a.out.now c.field.new.out a.at a.width a.decimals a.n.minus a.n.size
    c.ten_to-p.result c.places-k.result _
    c.ten_to-p.ensures.0 c.places-k.ensures.0 (needed a.decimals a.n.minus a.n.size c.ten_to-p.result c.places-k.result c.sign_width.result c.point_width.result
    c.ten_to-p.ensures.0 c.places-k.ensures.0 c.sign_width.ensures.0 c.point_width.ensures.0)
    (omega (arith, c.sign_width.ensures.0, c.point_width.ensures.0))
    (omega (arith, c.if-out-at.false, c.if-out-at-2.false)) c.if-width-need.false c.field.ensures in
    record { value = h.0; out_after = h.1 }
