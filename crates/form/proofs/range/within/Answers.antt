-- The test is the definition's.
use Rattle.std.proofs.Common.{arith}
use Rattle.std.proofs.lemmas.Bool.Decides.{nat_tests}
use Rattle.form.specs.Values.{outside}
use Rattle.form.proofs.range.within.Goals as goal

pub returns-then-v-hi : goal.returns-then-v-hi
unfolding outside
returns-then-v-hi c = grind (arith, nat_tests)

pub returns-else-lo-v : goal.returns-else-lo-v
unfolding outside
returns-else-lo-v c = grind (arith, nat_tests)
