-- `pirea_from` meets its contract: the first wrong field is found from the last on, as the definition says; without one the record is made.
use mathlib.Core.Path.{refl}
use Rattle.form.proofs.Told.{tells-right, tells-wrong}
use Rattle.kind_pir_code.specs.Reply.{pirea_row}
use Rattle.kind_pir_code.proofs.reply.pirea_from.Goals as goal

pub returns-then-w1-ne0 : goal.returns-then-w1-ne0
unfolding pirea_row
returns-then-w1-ne0 c =
    tells-wrong _ _ _ _ c.near-w1.result c.refuse.ensures (rw (← c.near-w1.ensures)) c.if-w1-ne0.true

pub returns : goal.returns
unfolding pirea_row
returns c =
    tells-right _ _ _ _ _ c.lay.ensures (rw (← c.near-w1.ensures) c.if-w1-ne0.false) refl
