-- `entry_from` meets its contract: the first wrong field decides.
use borrow.Author.Tests.{eq-eqb, ne_eqb}
use Rattle.kind_gsv.specs.Row.{entry_at, entry_from}
use Rattle.kind_gsv.proofs.entry_from.Goals as goal

pub returns-then-wrong-ne0 : goal.returns-then-wrong-ne0
unfolding entry_from entry_at
returns-then-wrong-ne0 c = rw (← c.first_of-wrong.ensures, ne_eqb _ _ c.if-wrong-ne0.true, c.entry.ensures)

pub returns : goal.returns
unfolding entry_from entry_at
returns c =
    rw (← c.first_of-wrong.ensures, eq-eqb _ _ c.if-wrong-ne0.false, c.into.ensures, c.into-2.ensures, c.into-3.ensures)
