use Rattle.std.proofs.Common.{arith}
use Rattle.std.proofs.lemmas.Bool.Decides.{nat_tests}
use Rattle.form_mask.specs.Masks.{is_port_mask}
use Rattle.form_mask.proofs.read.is_port_mask.Goals as goal

pub returns-then-v-eq0 : goal.returns-then-v-eq0
unfolding is_port_mask
returns-then-v-eq0 c = grind (arith, nat_tests)

pub returns-else-v-eq0 : goal.returns-else-v-eq0
unfolding is_port_mask
returns-else-v-eq0 c = grind (arith, nat_tests)
