-- What is known of the entries before the place, and the rest, give what writing comes to.
use Prim.Native.Nat.{◌-◌}
use lib.ListN.{length}
use Rattle.index.specs.Places.{Planning}
use Rattle.index.proofs.writing.planned.Given as goal

abbrev pub invariant-loop-reached : goal.invariant-loop-reached
invariant-loop-reached l = Planning l.entries l.reached

abbrev pub decreases-loop-reached : goal.decreases-loop-reached
decreases-loop-reached l = length l.entries - l.reached.at
