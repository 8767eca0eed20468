-- `zda_from` meets its contract: the first wrong field is found from the last on, as the definition says; without one the record is made.
use Rattle.form.proofs.Told.{tells-right, tells-wrong}
use Rattle.kind_zda.specs.Row.{zda_row}
use Rattle.kind_zda.proofs.zda_from.Goals as goal

pub returns-then-w1-ne0 : goal.returns-then-w1-ne0
unfolding zda_row
returns-then-w1-ne0 c =
    tells-wrong _ _ _ _ c.near-w1.result c.refuse.ensures
    (rw (← c.near-w5.ensures, ← c.near-w2.ensures, ← c.near-w1.ensures)) c.if-w1-ne0.true

pub returns : goal.returns
unfolding zda_row
returns c =
    tells-right _ _ _ _ _ c.lay.ensures (rw (← c.near-w5.ensures, ← c.near-w2.ensures, ← c.near-w1.ensures) c.if-w1-ne0.false)
    (rw (c.into.ensures, c.into-2.ensures, c.into-3.ensures))
