-- `unit` meets its contract: the letter, or no value and an empty field.
use Rattle.std.proofs.Common.{arith}
use Rattle.std.proofs.lemmas.Bool.Decides.{nat_tests}
use Rattle.form.specs.Units.{unit_wrong}
use Rattle.form.proofs.unit.unit.Goals as goal

pub returns-then-is_empty : goal.returns-then-is_empty
unfolding unit_wrong
returns-then-is_empty c = grind (arith, nat_tests)

pub returns-else-is_empty : goal.returns-else-is_empty
unfolding unit_wrong
returns-else-is_empty c = grind (arith, nat_tests)
