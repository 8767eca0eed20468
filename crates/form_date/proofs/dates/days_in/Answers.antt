use Rattle.std.proofs.Common.{arith}
use Rattle.std.proofs.lemmas.Bool.Decides.{nat_tests}
use Rattle.form_date.specs.Calendar.{days_in}
use Rattle.form_date.proofs.dates.days_in.Goals as goal

pub returns-in-2 : goal.returns-in-2
unfolding days_in
returns-in-2 c = grind (arith, nat_tests)

pub returns-in-2-2 : goal.returns-in-2-2
unfolding days_in
returns-in-2-2 c = grind (arith, nat_tests)

pub returns-in-4 : goal.returns-in-4
unfolding days_in
returns-in-4 c = grind (arith, nat_tests)

pub returns-in_default : goal.returns-in_default
unfolding days_in
returns-in_default c = grind (arith, nat_tests)

pub returns-in_default-2 : goal.returns-in_default-2
unfolding days_in
returns-in_default-2 c = grind (arith, nat_tests)

pub returns-in-1-to-12 : goal.returns-in-1-to-12
unfolding days_in
returns-in-1-to-12 c = grind (arith, nat_tests)

pub returns-in-1-to-12-2 : goal.returns-in-1-to-12-2
unfolding days_in
returns-in-1-to-12-2 c = grind (arith, nat_tests)
