-- By whether it is a digit.
use borrow.Author.Tests.{lt-ltb, le-ltb}
use Rattle.words.specs.Codes.{byte_of}
use Rattle.words.proofs.code.byte_of.Goals as goal

pub returns-then-v-lt10 : goal.returns-then-v-lt10
unfolding byte_of
returns-then-v-lt10 c = rw (lt-ltb _ _ c.if-v-lt10.true)

pub returns : goal.returns
unfolding byte_of
returns c = rw (le-ltb _ _ c.if-v-lt10.false)
