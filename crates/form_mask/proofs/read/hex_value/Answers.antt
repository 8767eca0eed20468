-- `hex_value` meets its contract: each way of its test is the choice of the definition.
use Rattle.std.proofs.Common.{arith}
use Rattle.std.proofs.lemmas.Bool.Decides.{nat_tests}
use Rattle.digits.specs.Hex.{hex_digit, hex_value}
use Rattle.form_mask.proofs.read.hex_value.Goals as goal

pub overflow_sub-b : goal.overflow_sub-b
unfolding hex_digit
overflow_sub-b c = grind (arith, nat_tests)

pub overflow_sub-b-else-b-le57 : goal.overflow_sub-b-else-b-le57
unfolding hex_digit
overflow_sub-b-else-b-le57 c = grind (arith, nat_tests)

pub returns-then-b-le57 : goal.returns-then-b-le57
unfolding hex_digit hex_value
returns-then-b-le57 c = grind (arith, nat_tests)

pub returns-else-b-le57 : goal.returns-else-b-le57
unfolding hex_digit hex_value
returns-else-b-le57 c = grind (arith, nat_tests)
