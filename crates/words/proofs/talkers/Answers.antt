-- By the kind.
use borrow.Author.Tests.{lt-ltb, le-ltb}
use Rattle.words.specs.Words.{talkers_of}
use Rattle.words.proofs.talkers.Goals as goal

pub returns-then-kind-lt8 : goal.returns-then-kind-lt8
unfolding talkers_of
returns-then-kind-lt8 c = rw (lt-ltb _ _ c.if-kind-lt8.true)

pub returns-else-kind-lt8 : goal.returns-else-kind-lt8
unfolding talkers_of
returns-else-kind-lt8 c = rw (le-ltb _ _ c.if-kind-lt8.false)
