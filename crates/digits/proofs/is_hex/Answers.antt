-- `is_hex` meets its contract: each range of its test is one of the definition.
use Rattle.std.proofs.Common.{rules}
use Rattle.digits.specs.Hex.{hex_digit}
use Rattle.digits.proofs.is_hex.Goals as goal

pub returns-in-48-to-57 : goal.returns-in-48-to-57
unfolding hex_digit
returns-in-48-to-57 c = search rules

pub returns-in-48-to-57-2 : goal.returns-in-48-to-57-2
unfolding hex_digit
returns-in-48-to-57-2 c = search rules

pub returns-in_default : goal.returns-in_default
unfolding hex_digit
returns-in_default c = search rules

pub returns-in_default-2 : goal.returns-in_default-2
unfolding hex_digit
returns-in_default-2 c = search rules

pub returns-in_default-3 : goal.returns-in_default-3
unfolding hex_digit
returns-in_default-3 c = search rules
