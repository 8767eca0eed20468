use Rattle.std.proofs.Common.{arith}
use Rattle.std.proofs.lemmas.Bool.Decides.{nat_tests}
use Rattle.form_position.specs.Angle.{both_of}
use Rattle.form_position.proofs.read.both.Goals as goal

pub returns-then-a-ne0 : goal.returns-then-a-ne0
unfolding both_of
returns-then-a-ne0 c = grind (arith, nat_tests)

pub returns-then-a-o : goal.returns-then-a-o
unfolding both_of
returns-then-a-o c = grind (arith, nat_tests)

pub returns-then-o-ne0 : goal.returns-then-o-ne0
unfolding both_of
returns-then-o-ne0 c = grind (arith, nat_tests)

pub returns : goal.returns
unfolding both_of
returns c = grind (arith, nat_tests)
