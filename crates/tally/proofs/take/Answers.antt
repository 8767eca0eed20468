-- Part by part.
use Rattle.tally.specs.Tally.{take}
use Rattle.tally.proofs.take.Goals as goal

pub returns : goal.returns
unfolding take
returns c = rw (c.plus-3.ensures, c.one.ensures, c.plus-2.ensures, c.plus.ensures)
