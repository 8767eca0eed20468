-- The run ends with this line, or it has fewer than nine with it.
use Rattle.std.proofs.Common.{rules}
use Rattle.runs.specs.Step.{joined_to}
use Rattle.runs.proofs.joined.Goals as goal

pub returns-then-number-run : goal.returns-then-number-run
unfolding joined_to
returns-then-number-run c = search rules

pub returns : goal.returns
unfolding joined_to
returns c = search rules
