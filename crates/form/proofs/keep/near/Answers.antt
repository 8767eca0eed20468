-- `near` meets its contract, by the two cases of its test.
use borrow.Author.Tests.{eq-eqb, ne_eqb}
use Rattle.form.specs.Wrong.{near_of}
use Rattle.form.proofs.keep.near.Goals as goal

pub returns-then-wrong-eq0 : goal.returns-then-wrong-eq0
unfolding near_of
returns-then-wrong-eq0 c = rw (eq-eqb _ _ c.if-wrong-eq0.true)

pub returns : goal.returns
unfolding near_of
returns c = rw (ne_eqb _ _ c.if-wrong-eq0.false)
