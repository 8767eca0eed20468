-- `read` meets its contract: the count decides, then each field's form.
use Rattle.form.proofs.Told.{tells-count, tells-fields}
use Rattle.kind_pir_code.specs.Reply.{pirea_row}
use Rattle.kind_pir_code.proofs.reply.read.Goals as goal

pub returns-then-f-ne1 : goal.returns-then-f-ne1
unfolding pirea_row
returns-then-f-ne1 c = tells-count _ _ _ _ _ c.refuse.ensures c.if-f-ne1.true

pub returns : goal.returns
unfolding pirea_row
returns c =
    tells-fields _ _ _ _ _ _ c.pirea_from.ensures c.if-f-ne1.false (rw (c.code-code.ensures, c.at.ensures.holds))
