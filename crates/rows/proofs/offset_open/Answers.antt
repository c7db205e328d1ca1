-- A check that is first news bounds the offset.
use Rattle.rows.proofs.Laws.{is_news, first_news_lem, second_news, no_news}
use Rattle.rows.proofs.offset_open.Goals.{then-eq-via-then-eq, then-eq-via-else-eq+then-eq-2}
use Rattle.rows.proofs.offset_open.Goals as goal

pub returns-then-eq : goal.returns-then-eq
returns-then-eq c =
    elim c.then-eq.branch [
      | then-eq-via-then-eq w ↦ first_news_lem _ _ _ (is_news _ c.eq.ensures c.check_at.ensures) w.if-eq.true
      | then-eq-via-else-eq+then-eq-2 w ↦ second_news _ _ _ (is_news _ w.eq-else-eq.ensures w.check_at-else-eq.ensures) w.if-eq-2.true
    ]

pub returns : goal.returns
returns c =
    no_news _ _ _ (is_news _ c.eq.ensures c.check_at.ensures) c.if-eq.false (is_news _ c.eq-else-eq.ensures c.check_at-else-eq.ensures) c.if-eq-2.false c.«open».ensures c.at.ensures
