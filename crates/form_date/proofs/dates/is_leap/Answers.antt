use Rattle.std.proofs.Common.{arith}
use Rattle.std.proofs.lemmas.Bool.Decides.{nat_tests}
use Rattle.form_date.specs.Calendar.{leap_year}
use Rattle.form_date.proofs.dates.is_leap.Goals as goal

pub returns-then-year-ne0 : goal.returns-then-year-ne0
unfolding leap_year
returns-then-year-ne0 c = grind (arith, nat_tests)

pub returns-else-year-ne0 : goal.returns-else-year-ne0
unfolding leap_year
returns-else-year-ne0 c = grind (arith, nat_tests)
