-- The last entry is held by its number, the end of its line and its length; each turn goes over an entry that is not the one wanted.
use Prim.Native.Nat.{◌≤◌, ◌-◌}
use lib.ListN.{length}
use Rattle.index.specs.Places.{Low, Passes}
use Rattle.index.proofs.Passing.{placed, ending}
use Rattle.index.proofs.reading.pass.Given as goal

abbrev pub invariant-loop-bytes : goal.invariant-loop-bytes
invariant-loop-bytes l =
    Low (length l.s) l.at l.number l.end
    × ((l.bytes ≤ l.end) × Passes l.s l.wanted (placed l.initial.at l.initial.count (ending l.initial.number l.initial.end l.initial.bytes)) (placed l.at l.count (ending l.number l.end l.bytes)))

abbrev pub decreases-loop-bytes : goal.decreases-loop-bytes
decreases-loop-bytes l = length l.s - l.at
