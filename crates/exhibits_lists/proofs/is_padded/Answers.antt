use Rattle.std.proofs.Common.{arith}
use Rattle.std.proofs.lemmas.Bool.Decides.{nat_tests}
use Rattle.exhibits_lists.specs.Lists.{is_padded}
use Rattle.exhibits_lists.proofs.is_padded.Goals as goal

pub returns-then-s-ge2 : goal.returns-then-s-ge2
unfolding is_padded
returns-then-s-ge2 c = grind (arith, nat_tests)

pub returns-else-s-ge2 : goal.returns-else-s-ge2
unfolding is_padded
returns-else-s-ge2 c = grind (arith, nat_tests)
