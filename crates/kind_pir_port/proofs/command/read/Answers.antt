-- `read` meets its contract: the count decides, then each field's form.
use Rattle.form.proofs.Told.{tells-count, tells-fields}
use Rattle.kind_pir_port.specs.Command.{pirpr_row}
use Rattle.kind_pir_port.proofs.command.read.Goals as goal

pub returns-then-f-ne4 : goal.returns-then-f-ne4
unfolding pirpr_row
returns-then-f-ne4 c = tells-count _ _ _ _ _ c.refuse.ensures c.if-f-ne4.true

pub returns : goal.returns
unfolding pirpr_row
returns c =
    tells-fields _ _ _ _ _ _ c.pirpr_from.ensures c.if-f-ne4.false
    (rw (c.port_mask-mask.ensures, c.fixed-protocol.ensures, c.rate-rate.ensures, c.fixed-port.ensures)
    (rw (c.at.ensures.holds, c.at-2.ensures.holds, c.at-3.ensures.holds, c.at-4.ensures.holds)))
