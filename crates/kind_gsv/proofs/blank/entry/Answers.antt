-- `entry` meets its contract: each value is the missing one.
use Rattle.kind_gsv.proofs.blank.entry.Goals as goal

pub returns : goal.returns
returns c = rw c.no_maybe-none.ensures
