use Rattle.std.proofs.Common.{arith}
use Rattle.std.proofs.lemmas.Bool.Decides.{nat_tests}
use Rattle.digits.proofs.PairLaws.{pair_lt}
use Rattle.form_date.specs.Dates.{date_six}
use Rattle.form_date.proofs.dates.six.Goals as goal

pub returns-then-is_empty : goal.returns-then-is_empty
unfolding date_six
returns-then-is_empty c = grind (arith, nat_tests)

pub returns-then-f-ne6 : goal.returns-then-f-ne6
unfolding date_six
returns-then-f-ne6 c = grind (arith, nat_tests)

pub full_year-requires : goal.full_year-requires
full_year-requires c = pair_lt _ _ _ c.pair_at-3.ensures

pub returns : goal.returns
unfolding date_six
returns c = grind (arith, nat_tests)
