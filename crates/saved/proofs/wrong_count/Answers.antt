-- Each section's count, by its place.
use Rattle.saved.proofs.Rows.{wrong_is}
use Rattle.saved.proofs.wrong_count.Goals as goal

pub returns : goal.returns
returns c =
    rw (c.miscounted.ensures, c.miscounted-2.ensures, c.miscounted-3.ensures, c.miscounted-4.ensures, c.miscounted-5.ensures, c.miscounted-6.ensures, c.miscounted-7.ensures, c.miscounted-8.ensures)
    (wrong_is c.places_of-at.ensures c.args.saved.now)
