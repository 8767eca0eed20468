use Rattle.std.proofs.Common.{arith}
use Rattle.std.proofs.lemmas.Bool.Decides.{nat_tests}
use Rattle.form_mask.specs.Masks.{satellites_of}
use Rattle.form_mask.proofs.read.allowed.Goals as goal

pub returns-then-not-same_bytes : goal.returns-then-not-same_bytes
unfolding satellites_of
returns-then-not-same_bytes c = grind (arith, nat_tests)

pub returns-then-width-gt8 : goal.returns-then-width-gt8
unfolding satellites_of
returns-then-width-gt8 c = grind (arith, nat_tests)

pub returns : goal.returns
unfolding satellites_of
returns c = grind (arith, nat_tests)
