-- Both tests are those of the definition.
use Rattle.std.proofs.Common.{rules}
use Rattle.receiver_numbers.specs.Numbers.{said}
use Rattle.receiver_numbers.proofs.are_said.Goals as goal

pub returns-then-numbers-ge11 : goal.returns-then-numbers-ge11
unfolding said
returns-then-numbers-ge11 c = search rules

pub returns-else-numbers-ge11 : goal.returns-else-numbers-ge11
unfolding said
returns-else-numbers-ge11 c = search rules
