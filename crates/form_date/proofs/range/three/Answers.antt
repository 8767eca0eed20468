use Rattle.std.proofs.Common.{arith}
use Rattle.std.proofs.lemmas.Bool.Decides.{nat_tests}
use Rattle.form_date.specs.Values.{three_wrong}
use Rattle.form_date.proofs.range.three.Goals as goal

pub returns-then-maybe-ne0 : goal.returns-then-maybe-ne0
unfolding three_wrong
returns-then-maybe-ne0 c = grind (arith, nat_tests)

pub returns-then-maybe-ne0-2 : goal.returns-then-maybe-ne0-2
unfolding three_wrong
returns-then-maybe-ne0-2 c = grind (arith, nat_tests)

pub returns-then-six-ne0 : goal.returns-then-six-ne0
unfolding three_wrong
returns-then-six-ne0 c = grind (arith, nat_tests)

pub returns-else-six-ne0 : goal.returns-else-six-ne0
unfolding three_wrong
returns-else-six-ne0 c = grind (arith, nat_tests)
