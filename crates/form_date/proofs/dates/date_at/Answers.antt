use Rattle.std.proofs.Common.{arith}
use Rattle.std.proofs.lemmas.Bool.Decides.{nat_tests}
use Rattle.form_date.specs.Dates.{date_at}
use Rattle.form_date.proofs.dates.date_at.Goals as goal

pub returns-in_default : goal.returns-in_default
unfolding date_at
returns-in_default c = grind (arith, nat_tests)

pub returns-in_default-month : goal.returns-in_default-month
unfolding date_at
returns-in_default-month c = grind (arith, nat_tests)

pub returns-in_default-year : goal.returns-in_default-year
unfolding date_at
returns-in_default-year c = grind (arith, nat_tests)

pub returns-then-not-is_date : goal.returns-then-not-is_date
unfolding date_at
returns-then-not-is_date c = grind (arith, nat_tests)

pub returns : goal.returns
unfolding date_at
returns c = grind (arith, nat_tests)
