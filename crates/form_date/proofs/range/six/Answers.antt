use Rattle.std.proofs.Common.{arith}
use Rattle.std.proofs.lemmas.Bool.Decides.{nat_tests}
use Rattle.form_date.specs.Values.{six_wrong}
use Rattle.form_date.proofs.range.six.Goals as goal

pub returns-then-good : goal.returns-then-good
unfolding six_wrong
returns-then-good c = grind (arith, nat_tests)

pub returns-else-good : goal.returns-else-good
unfolding six_wrong
returns-else-good c = grind (arith, nat_tests)
