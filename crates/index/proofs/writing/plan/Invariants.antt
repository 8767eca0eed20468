-- Each turn goes over an entry that fits and takes three bytes; so as many bytes are counted as numbers were gone over.
use Prim.Native.Nat.{◌≤◌, ◌-◌, ◌+◌}
use lib.ListN.{length}
use Rattle.index.specs.Places.{reached_at, Planning}
use Rattle.index.proofs.writing.plan.Given as goal

abbrev pub invariant-loop-number : goal.invariant-loop-number
invariant-loop-number l =
    (l.from.at ≤ l.i) × Planning l.entries (reached_at l.i l.number l.end (l.from.used + (l.i - l.from.at)))

abbrev pub decreases-loop-number : goal.decreases-loop-number
decreases-loop-number l = length l.entries - l.i
