-- What is known of the entries before the place, and what was found, and the rest, give what the whole comes to.
use Prim.Native.Nat.{◌-◌}
use lib.ListN.{length}
use Rattle.index.proofs.Walking.{Walking}
use Rattle.index.proofs.reading.walk.Given as goal

abbrev pub invariant-loop-place : goal.invariant-loop-place
invariant-loop-place l = Walking l.s l.number l.best l.place

abbrev pub decreases-loop-place : goal.decreases-loop-place
decreases-loop-place l = length l.s - l.place.at
