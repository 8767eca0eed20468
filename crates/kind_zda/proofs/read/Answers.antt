-- `read` meets its contract: the count decides, then each field's form.
use Rattle.form.proofs.Told.{tells-count, tells-fields}
use Rattle.kind_zda.specs.Row.{zda_row}
use Rattle.kind_zda.proofs.read.Goals as goal

pub returns-then-f-ne6 : goal.returns-then-f-ne6
unfolding zda_row
returns-then-f-ne6 c = tells-count _ _ _ _ _ c.refuse.ensures c.if-f-ne6.true

pub returns : goal.returns
unfolding zda_row
returns c =
    tells-fields _ _ _ _ _ _ c.zda_from.ensures c.if-f-ne6.false
    (rw (c.two-zone.ensures, c.three-date.ensures, c.time-time.ensures)
    (rw (c.at.ensures.holds, c.at-2.ensures.holds, c.at-3.ensures.holds, c.at-4.ensures.holds, c.at-5.ensures.holds)
    (rw (c.at-6.ensures.holds))))
