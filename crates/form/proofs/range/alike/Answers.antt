-- The four cases.
use Rattle.std.proofs.Common.{arith}
use Rattle.std.proofs.lemmas.Bool.Decides.{nat_tests}
use Rattle.form.specs.Values.{alike_wrong}
use Rattle.form.proofs.range.alike.Goals as goal

pub returns-then-needed-there : goal.returns-then-needed-there
unfolding alike_wrong
returns-then-needed-there c = grind (arith, nat_tests)

pub returns-else-needed-there : goal.returns-else-needed-there
unfolding alike_wrong
returns-else-needed-there c = grind (arith, nat_tests)
