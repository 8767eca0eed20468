use Rattle.std.proofs.Common.{arith}
use Rattle.std.proofs.lemmas.Bool.Decides.{nat_tests}
use Rattle.form_position.specs.Angle.{sided_of}
use Rattle.form_position.proofs.read.sided.Goals as goal

pub returns-then-not-is_empty : goal.returns-then-not-is_empty
unfolding sided_of
returns-then-not-is_empty c = grind (arith, nat_tests)

pub returns-then-is_empty : goal.returns-then-is_empty
unfolding sided_of
returns-then-is_empty c = grind (arith, nat_tests)

pub returns-else-is_empty : goal.returns-else-is_empty
unfolding sided_of
returns-else-is_empty c = grind (arith, nat_tests)
