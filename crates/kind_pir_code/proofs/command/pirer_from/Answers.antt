-- `pirer_from` meets its contract: the first wrong field is found from the last on, as the definition says; without one the record is made.
use mathlib.Core.Path.{refl}
use Rattle.numbers.proofs.Rows.{tells_none}
use Rattle.form.proofs.Told.{tells-right, tells-wrong}
use Rattle.kind_pir_code.specs.Command.{pirer_row}
use Rattle.kind_pir_code.proofs.command.pirer_from.Goals as goal

pub returns-then-w1-ne0 : goal.returns-then-w1-ne0
unfolding pirer_row
returns-then-w1-ne0 c =
    tells-wrong _ _ _ _ c.near-w1.result c.refuse.ensures (rw (← c.near-w1.ensures)) c.if-w1-ne0.true

pub returns : goal.returns
unfolding pirer_row
returns c =
    tells-right _ _ _ _ tt (tells_none _ 11 c.bare.ensures) (rw (← c.near-w1.ensures) c.if-w1-ne0.false) refl
