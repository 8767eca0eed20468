use Rattle.std.proofs.Common.{arith}
use Rattle.std.proofs.lemmas.Bool.Decides.{nat_tests}
use Rattle.form_date.specs.Calendar.{is_date}
use Rattle.form_date.proofs.dates.is_date.Goals as goal

pub returns-then-day-ge1 : goal.returns-then-day-ge1
unfolding is_date
returns-then-day-ge1 c = grind (arith, nat_tests)

pub returns-else-day-ge1 : goal.returns-else-day-ge1
unfolding is_date
returns-else-day-ge1 c = grind (arith, nat_tests)
