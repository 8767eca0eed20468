-- `read` meets its contract: the count decides, then each field's form.
use Rattle.form.proofs.Told.{tells-count, tells-fields}
use Rattle.kind_pir_datum.specs.Reply.{pirta_row}
use Rattle.kind_pir_datum.proofs.reply.read.Goals as goal

pub returns-then-f-ne2 : goal.returns-then-f-ne2
unfolding pirta_row
returns-then-f-ne2 c = tells-count _ _ _ _ _ c.refuse.ensures c.if-f-ne2.true

pub returns : goal.returns
unfolding pirta_row
returns c =
    tells-fields _ _ _ _ _ _ c.pirta_from.ensures c.if-f-ne2.false (rw (c.four-zone.ensures, c.exact-datum.ensures)
    (rw (c.at.ensures.holds, c.at-2.ensures.holds)))
