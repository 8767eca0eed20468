use Rattle.std.proofs.Common.{arith}
use Rattle.std.proofs.lemmas.Bool.Decides.{nat_tests}
use Rattle.exhibits_lists.specs.Lists.{is_blank}
use Rattle.exhibits_lists.proofs.is_blank.Goals as goal

pub returns-then-b-eq32 : goal.returns-then-b-eq32
unfolding is_blank
returns-then-b-eq32 c = grind (arith, nat_tests)

pub returns-else-b-eq32 : goal.returns-else-b-eq32
unfolding is_blank
returns-else-b-eq32 c = grind (arith, nat_tests)
