-- `read` meets its contract: the count decides, then each field's form.
use Rattle.form.proofs.Told.{tells-count, tells-fields}
use Rattle.kind_gll.specs.Row.{gll_row}
use Rattle.kind_gll.proofs.read.Goals as goal

pub returns-then-f-ne7 : goal.returns-then-f-ne7
unfolding gll_row
returns-then-f-ne7 c = tells-count _ _ _ _ _ c.refuse.ensures c.if-f-ne7.true

pub returns : goal.returns
unfolding gll_row
returns c =
    tells-fields _ _ _ _ _ _ c.gll_from.ensures c.if-f-ne7.false
    (rw (c.letter-mode.ensures, c.letter-status.ensures, c.time-time.ensures, c.position-place.ensures)
    (rw (c.at.ensures.holds, c.at-2.ensures.holds, c.at-3.ensures.holds, c.at-4.ensures.holds, c.at-5.ensures.holds)
    (rw (c.at-6.ensures.holds, c.at-7.ensures.holds))))
