-- The test is the definition's own.
use borrow.Author.Tests.{eq-eqb, ne_eqb}
use Rattle.finder.proofs.reach.Goals as goal

pub returns-then-b-eq36 : goal.returns-then-b-eq36
returns-then-b-eq36 c = rw (eq-eqb _ _ c.if-b-eq36.true)

pub returns-else-b-eq36 : goal.returns-else-b-eq36
returns-else-b-eq36 c = rw (ne_eqb _ _ c.if-b-eq36.false)
