-- The front of the scratch.
use Rattle.frame.proofs.finish.Goals as goal

pub returns : goal.returns
returns c = rw (← c.front.ensures) c.write.ensures
