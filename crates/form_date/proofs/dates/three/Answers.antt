use Rattle.std.proofs.Common.{arith}
use Rattle.std.proofs.lemmas.Bool.Decides.{nat_tests}
use Rattle.form_date.specs.Dates.{date_three}
use Rattle.form_date.proofs.dates.three.Goals as goal

pub returns-then-not-is_empty : goal.returns-then-not-is_empty
unfolding date_three
returns-then-not-is_empty c = grind (arith, nat_tests)

pub returns-then-not-is_empty-2 : goal.returns-then-not-is_empty-2
unfolding date_three
returns-then-not-is_empty-2 c = grind (arith, nat_tests)

pub returns-else-not-is_empty-2 : goal.returns-else-not-is_empty-2
unfolding date_three
returns-else-not-is_empty-2 c = grind (arith, nat_tests)

pub returns : goal.returns
unfolding date_three
returns c = grind (arith, nat_tests)
