-- Each turn lays the numbers of an entry: since the bytes read as an index, it fits, and there is room for it.
use Prim.Native.Nat.{◌-◌}
use mathlib.Core.Path.{◌≡◌}
use lib.ListN.{length}
use Rattle.index.specs.Places.{laid_at, LaysOn}
use Rattle.index.proofs.reading.lay.Given as goal

abbrev pub invariant-loop-skip : goal.invariant-loop-skip
invariant-loop-skip l =
    (length l.out ≡ length l.initial.out) × LaysOn l.s l.initial.out (laid_at l.initial.at l.initial.number l.initial.end l.initial.place) l.out (laid_at l.at l.number l.end l.place)

abbrev pub decreases-loop-skip : goal.decreases-loop-skip
decreases-loop-skip l = length l.s - l.at
