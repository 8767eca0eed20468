use Rattle.std.proofs.Common.{arith}
use Rattle.std.proofs.lemmas.Bool.Decides.{nat_tests}
use Rattle.form_date.specs.Zone.{bare_of, minus}
use Rattle.form_date.proofs.zones.bare.Goals as goal

pub returns : goal.returns
unfolding bare_of minus
returns c = grind (arith, nat_tests)
