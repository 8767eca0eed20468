-- `read` meets its contract: the count decides, then each field's form.
use Rattle.form.proofs.Told.{tells-count, tells-fields}
use Rattle.kind_pir_code.specs.Command.{pirer_row}
use Rattle.kind_pir_code.proofs.command.read.Goals as goal

pub returns-then-f-ne1 : goal.returns-then-f-ne1
unfolding pirer_row
returns-then-f-ne1 c = tells-count _ _ _ _ _ c.refuse.ensures c.if-f-ne1.true

pub returns : goal.returns
unfolding pirer_row
returns c =
    tells-fields _ _ _ _ _ _ c.pirer_from.ensures c.if-f-ne1.false (rw (c.exact-zero.ensures, c.at.ensures.holds))
