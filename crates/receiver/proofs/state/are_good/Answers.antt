-- `are_good` meets its contract: each setting in its range.
use Rattle.std.proofs.Common.{rules}
use Rattle.receiver.specs.Settings.{settings_good}
use Rattle.receiver.proofs.state.are_good.Goals as goal

pub returns-then-within-eq0-3 : goal.returns-then-within-eq0-3
unfolding settings_good
returns-then-within-eq0-3 c = search rules

pub returns-else-within-eq0-3 : goal.returns-else-within-eq0-3
unfolding settings_good
returns-else-within-eq0-3 c = search rules
