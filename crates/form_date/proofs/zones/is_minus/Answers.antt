use Rattle.std.proofs.Common.{arith}
use Rattle.std.proofs.lemmas.Bool.Decides.{nat_tests}
use Rattle.form_date.specs.Zone.{minus}
use Rattle.form_date.proofs.zones.is_minus.Goals as goal

pub returns : goal.returns
unfolding minus
returns c = grind (arith, nat_tests)
