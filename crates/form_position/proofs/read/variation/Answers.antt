use Rattle.std.proofs.Common.{arith}
use Rattle.std.proofs.lemmas.Bool.Decides.{nat_tests}
use Rattle.form_number.proofs.NumberLaws.{below-under}
use Rattle.form_position.specs.Angle.{variation_form}
use Rattle.form_position.proofs.read.variation.Goals as goal

pub lettered-requires : goal.lettered-requires
lettered-requires c = below-under _ _ _ c.less.ensures

pub returns-then-not-is_empty : goal.returns-then-not-is_empty
unfolding variation_form
returns-then-not-is_empty c = grind (arith, nat_tests)

pub returns-then-only-2 : goal.returns-then-only-2
unfolding variation_form
returns-then-only-2 c = grind (arith, nat_tests)

pub returns-else-only-2 : goal.returns-else-only-2
unfolding variation_form
returns-else-only-2 c = grind (arith, nat_tests)
