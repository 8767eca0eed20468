-- `read` meets its contract: the count decides, then each field's form.
use Rattle.form.proofs.Told.{tells-count, tells-fields}
use Rattle.kind_pir_masks.specs.Command.{pirsr_row}
use Rattle.kind_pir_masks.proofs.command.read.Goals as goal

pub returns-then-f-ne3 : goal.returns-then-f-ne3
unfolding pirsr_row
returns-then-f-ne3 c = tells-count _ _ _ _ _ c.refuse.ensures c.if-f-ne3.true

pub returns : goal.returns
unfolding pirsr_row
returns c =
    tells-fields _ _ _ _ _ _ c.pirsr_from.ensures c.if-f-ne3.false
    (rw (c.empty-third.ensures, c.satellites-glonass.ensures, c.satellites-gps.ensures)
    (rw (c.at.ensures.holds, c.at-2.ensures.holds, c.at-3.ensures.holds)))
