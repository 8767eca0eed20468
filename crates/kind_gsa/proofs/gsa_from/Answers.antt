-- `gsa_from` meets its contract: the first wrong field decides; without one the record is made.
use borrow.Author.Tests.{eq-eqb, ne_eqb}
use Rattle.numbers.proofs.Rows.{tells_as, tells-refused}
use Rattle.kind_gsa.specs.Row.{gsa_from}
use Rattle.kind_gsa.proofs.gsa_from.Goals as goal

pub returns-then-w1-ne0 : goal.returns-then-w1-ne0
unfolding gsa_from
returns-then-w1-ne0 c =
    tells-refused c.refuse.ensures (rw (← c.near-w2.ensures, ← c.near-w1.ensures, ne_eqb _ _ c.if-w1-ne0.true))

pub returns : goal.returns
unfolding gsa_from
returns c =
    tells_as c.lay.ensures (rw (← c.near-w2.ensures, ← c.near-w1.ensures, eq-eqb _ _ c.if-w1-ne0.false, c.into.ensures)
    (rw (c.into-2.ensures, c.into-3.ensures)))
