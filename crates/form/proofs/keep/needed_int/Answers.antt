-- `needed_int` meets its contract, by the cases of its tests.
use borrow.Author.Tests.{eq-eqb, ne_eqb}
use Rattle.form.proofs.keep.needed_int.Goals as goal

pub returns-then-g-ne0 : goal.returns-then-g-ne0
returns-then-g-ne0 c = rw (ne_eqb _ _ c.if-g-ne0.true)

pub returns-then-needed-g : goal.returns-then-needed-g
returns-then-needed-g c = rw (eq-eqb _ _ c.if-g-ne0.false, c.if-needed-g.true)

pub returns-else-needed-g : goal.returns-else-needed-g
returns-else-needed-g c = rw (eq-eqb _ _ c.if-g-ne0.false, c.if-needed-g.false)
