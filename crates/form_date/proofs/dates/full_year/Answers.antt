use Rattle.std.proofs.Common.{arith}
use Rattle.std.proofs.lemmas.Bool.Decides.{nat_tests}
use Rattle.form_date.specs.Dates.{full_year}
use Rattle.form_date.proofs.dates.full_year.Goals as goal

pub returns-then-yy-lt80 : goal.returns-then-yy-lt80
unfolding full_year
returns-then-yy-lt80 c = grind (arith, nat_tests)

pub returns-else-yy-lt80 : goal.returns-else-yy-lt80
unfolding full_year
returns-else-yy-lt80 c = grind (arith, nat_tests)
