-- The entry before the first.
use Rattle.index.proofs.reading.no_index.Goals as goal

pub returns : goal.returns
returns c = rw c.origin.ensures
