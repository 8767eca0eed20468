-- Part by part.
use Rattle.tally.specs.Tally.{ended}
use Rattle.tally.proofs.end.Goals as goal

pub returns : goal.returns
unfolding ended
returns c = rw (c.plus.ensures, c.one.ensures)
