-- Each turn puts the three bytes of an entry: the entries are in order, and there is room for their bytes.
use Prim.Native.Nat.{◌-◌}
use mathlib.Core.Path.{◌≡◌}
use lib.ListN.{length}
use Rattle.index.specs.Places.{reached_at, PutsOn}
use Rattle.index.proofs.writing.put_close.Given as goal

abbrev pub invariant-loop-n : goal.invariant-loop-n
invariant-loop-n l =
    (length l.out ≡ length l.initial.out) × PutsOn l.entries l.initial.out (reached_at l.initial.i l.initial.number l.initial.end l.initial.place) l.out (reached_at l.i l.number l.end l.place)

abbrev pub decreases-loop-n : goal.decreases-loop-n
decreases-loop-n l = length l.entries - l.i
