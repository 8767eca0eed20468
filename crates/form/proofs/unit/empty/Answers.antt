-- `empty` meets its contract: its test is the definition's.
use Rattle.std.proofs.Common.{arith}
use Rattle.std.proofs.lemmas.Bool.Decides.{nat_tests}
use Rattle.form.specs.Units.{empty_wrong}
use Rattle.form.proofs.unit.empty.Goals as goal

pub returns-then-is_empty : goal.returns-then-is_empty
unfolding empty_wrong
returns-then-is_empty c = grind (arith, nat_tests)

pub returns-else-is_empty : goal.returns-else-is_empty
unfolding empty_wrong
returns-else-is_empty c = grind (arith, nat_tests)
