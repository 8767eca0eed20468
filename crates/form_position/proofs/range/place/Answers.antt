use Rattle.std.proofs.Common.{arith}
use Rattle.std.proofs.lemmas.Bool.Decides.{nat_tests}
use Rattle.form_position.specs.Values.{place_wrong}
use Rattle.form_position.proofs.range.place.Goals as goal

pub returns-then-signed-ne0 : goal.returns-then-signed-ne0
unfolding place_wrong
returns-then-signed-ne0 c = grind (arith, nat_tests)

pub returns-then-signed-ne0-2 : goal.returns-then-signed-ne0-2
unfolding place_wrong
returns-then-signed-ne0-2 c = grind (arith, nat_tests)

pub returns-else-signed-ne0-2 : goal.returns-else-signed-ne0-2
unfolding place_wrong
returns-else-signed-ne0-2 c = grind (arith, nat_tests)
