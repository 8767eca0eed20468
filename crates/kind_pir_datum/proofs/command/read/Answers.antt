-- `read` meets its contract: the count decides, then each field's form.
use Rattle.form.proofs.Told.{tells-count, tells-fields}
use Rattle.kind_pir_datum.specs.Command.{pirtr_row}
use Rattle.kind_pir_datum.proofs.command.read.Goals as goal

pub returns-then-f-ne2 : goal.returns-then-f-ne2
unfolding pirtr_row
returns-then-f-ne2 c = tells-count _ _ _ _ _ c.refuse.ensures c.if-f-ne2.true

pub returns : goal.returns
unfolding pirtr_row
returns c =
    tells-fields _ _ _ _ _ _ c.pirtr_from.ensures c.if-f-ne2.false (rw (c.four-zone.ensures, c.fixed-datum.ensures)
    (rw (c.at.ensures.holds, c.at-2.ensures.holds)))
