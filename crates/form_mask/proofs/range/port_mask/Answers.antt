-- By whether the mask is there.
use Rattle.std.proofs.Common.{arith}
use Rattle.std.proofs.lemmas.Bool.Decides.{nat_tests}
use Rattle.form.specs.Values.{outside}
use Rattle.form_mask.specs.Masks.{port_wrong}
use Rattle.form_mask.proofs.range.port_mask.Goals as goal

pub returns-then-good : goal.returns-then-good
unfolding port_wrong outside
returns-then-good c = grind (arith, nat_tests)

pub returns-else-good : goal.returns-else-good
unfolding port_wrong outside
returns-else-good c = grind (arith, nat_tests)
