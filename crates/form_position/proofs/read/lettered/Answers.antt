use Rattle.std.proofs.Common.{arith}
use Rattle.std.proofs.lemmas.Bool.Decides.{nat_tests}
use Rattle.form_position.specs.Angle.{lettered_of}
use Rattle.form_position.proofs.read.lettered.Goals as goal

pub returns-in_default : goal.returns-in_default
unfolding lettered_of
returns-in_default c = grind (arith, nat_tests)

pub returns-then-not-only : goal.returns-then-not-only
unfolding lettered_of
returns-then-not-only c = grind (arith, nat_tests)

pub returns : goal.returns
unfolding lettered_of
returns c = grind (arith, nat_tests)
