-- `read` meets its contract: the count decides, then each field's form.
use Rattle.form.proofs.Told.{tells-count, tells-fields}
use Rattle.kind_pir_port.specs.Reply.{pirpa_row}
use Rattle.kind_pir_port.proofs.reply.read.Goals as goal

pub returns-then-f-ne4 : goal.returns-then-f-ne4
unfolding pirpa_row
returns-then-f-ne4 c = tells-count _ _ _ _ _ c.refuse.ensures c.if-f-ne4.true

pub returns : goal.returns
unfolding pirpa_row
returns c =
    tells-fields _ _ _ _ _ _ c.pirpa_from.ensures c.if-f-ne4.false
    (rw (c.port_mask-mask.ensures, c.exact-protocol.ensures, c.rate-rate.ensures, c.exact-port.ensures)
    (rw (c.at.ensures.holds, c.at-2.ensures.holds, c.at-3.ensures.holds, c.at-4.ensures.holds)))
