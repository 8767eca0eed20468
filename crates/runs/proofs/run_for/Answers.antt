-- The open run, or a new one.
use Rattle.std.proofs.Common.{rules}
use Rattle.runs.specs.Step.{run_for}
use Rattle.runs.proofs.run_for.Goals as goal

pub returns-then-was-eq0 : goal.returns-then-was-eq0
unfolding run_for
returns-then-was-eq0 c = search rules

pub returns : goal.returns
unfolding run_for
returns c = search rules
