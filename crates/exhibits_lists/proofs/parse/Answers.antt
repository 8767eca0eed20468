use Rattle.std.proofs.Common.{arith}
use Rattle.std.proofs.lemmas.Bool.Decides.{nat_tests}
use Rattle.exhibits_lists.specs.Lists.{number_of}
use Rattle.exhibits_lists.proofs.parse.Goals as goal

pub returns-then-is_empty : goal.returns-then-is_empty
unfolding number_of
returns-then-is_empty c = grind (arith, nat_tests)

pub returns : goal.returns
unfolding number_of
returns c = grind (arith, nat_tests)
