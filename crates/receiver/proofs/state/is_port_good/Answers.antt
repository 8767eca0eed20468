-- `is_port_good` meets its contract: each value in its range.
use Rattle.std.proofs.Common.{rules}
use Rattle.receiver.specs.Settings.{port_good}
use Rattle.receiver.proofs.state.is_port_good.Goals as goal

pub returns-then-within-eq0-2 : goal.returns-then-within-eq0-2
unfolding port_good
returns-then-within-eq0-2 c = search rules

pub returns-else-within-eq0-2 : goal.returns-else-within-eq0-2
unfolding port_good
returns-else-within-eq0-2 c = search rules
