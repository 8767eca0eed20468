-- `lines_for` meets its contract: one line for none, else the quotient rounded up.
use Rattle.sky.specs.Group.{lines_for}
use native.Mathlib.Omega.{arith}
use borrow.Author.Tests.{ne_eqb}
use Rattle.sky.proofs.lines_for.Goals as goal

pub returns-then-n-eq0 : goal.returns-then-n-eq0
unfolding lines_for
returns-then-n-eq0 c = rw c.if-n-eq0.true

pub returns-else-n-eq0 : goal.returns-else-n-eq0
unfolding lines_for
returns-else-n-eq0 c = rw (ne_eqb c.args.n 0 c.if-n-eq0.false) (omega (arith, c.div_ceil.ensures))
