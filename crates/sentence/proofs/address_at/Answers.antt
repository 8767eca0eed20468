-- `address_at` meets its contract, by the cases of its test.
use mathlib.Core.Path.{◌∙◌}
use Rattle.sentence.specs.Back.{address_at}
use Rattle.sentence.proofs.address_at.Goals as goal

pub returns-then-kind-talker : goal.returns-then-kind-talker
unfolding address_at
returns-then-kind-talker c = rw c.if-kind-talker.true

pub returns : goal.returns
unfolding address_at
returns c = c.known.ensures ∙ rw (c.talker_of.ensures, c.if-kind-talker.false)
