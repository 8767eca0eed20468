-- The test is the definition's own.
use borrow.Author.Tests.{eq-eqb, ne_eqb}
use Rattle.finder.proofs.ended_in.Goals as goal

pub returns-then-b-ne10 : goal.returns-then-b-ne10
returns-then-b-ne10 c = rw (ne_eqb _ _ c.if-b-ne10.true)

pub returns : goal.returns
returns c = rw (eq-eqb _ _ c.if-b-ne10.false) c.held_in.ensures
