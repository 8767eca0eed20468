use Rattle.std.proofs.Common.{arith}
use Rattle.std.proofs.lemmas.Bool.Decides.{nat_tests}
use Rattle.exhibits_lists.specs.Lists.{body_length}
use Rattle.exhibits_lists.proofs.body_length.Goals as goal

pub returns-then-eq : goal.returns-then-eq
unfolding body_length
returns-then-eq c = grind (arith, nat_tests)

pub returns : goal.returns
unfolding body_length
returns c = grind (arith, nat_tests)
