-- By whether there are any.
use Rattle.put.proofs.Chain.{nothing_put}
use borrow.Author.Tests.{eq-eqb, ne_eqb}
use Rattle.phrases.specs.Phrases.{hours_words}
use Rattle.phrases.proofs.put_hours.Goals as goal

pub returns-then-n-eq0 : goal.returns-then-n-eq0
unfolding hours_words
returns-then-n-eq0 c = rw (eq-eqb _ _ c.if-n-eq0.true) (nothing_put _)

pub returns : goal.returns
unfolding hours_words
returns c = rw (ne_eqb _ _ c.if-n-eq0.false) c.put_counted.ensures
