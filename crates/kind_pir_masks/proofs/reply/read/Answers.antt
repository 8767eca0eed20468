-- `read` meets its contract: the count decides, then each field's form.
use Rattle.form.proofs.Told.{tells-count, tells-fields}
use Rattle.kind_pir_masks.specs.Reply.{pirsa_row}
use Rattle.kind_pir_masks.proofs.reply.read.Goals as goal

pub returns-then-f-ne3 : goal.returns-then-f-ne3
unfolding pirsa_row
returns-then-f-ne3 c = tells-count _ _ _ _ _ c.refuse.ensures c.if-f-ne3.true

pub returns : goal.returns
unfolding pirsa_row
returns c =
    tells-fields _ _ _ _ _ _ c.pirsa_from.ensures c.if-f-ne3.false
    (rw (c.empty-third.ensures, c.whole-glonass.ensures, c.whole-gps.ensures)
    (rw (c.at.ensures.holds, c.at-2.ensures.holds, c.at-3.ensures.holds)))
