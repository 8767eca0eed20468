-- The loop keeps what was read so far, as the definition has it; its laws stand in LoopLaws.
use Prim.Native.Nat.{◌-◌}
use lib.ListN.{length}
use Rattle.sky_read.proofs.LoopLaws.{Going}
use Rattle.sky_read.proofs.read.Given as goal

abbrev pub invariant-loop-at : goal.invariant-loop-at
invariant-loop-at l = Going l.s l.entries l.seen l.head l.at l.k

abbrev pub decreases-loop-at : goal.decreases-loop-at
decreases-loop-at l = length l.s - l.at
