use Rattle.std.proofs.Common.{arith}
use Rattle.std.proofs.lemmas.Bool.Decides.{nat_tests}
use Rattle.form_date.specs.Zone.{zone_two}
use Rattle.form_date.proofs.zones.two.Goals as goal

pub returns-then-is_empty : goal.returns-then-is_empty
unfolding zone_two
returns-then-is_empty c = grind (arith, nat_tests)

pub returns : goal.returns
unfolding zone_two
returns c = grind (arith, nat_tests)
