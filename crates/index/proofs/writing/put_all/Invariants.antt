-- The bytes of the entries before the place are put; those of the rest, put behind them, are all.
use Prim.Native.Nat.{◌-◌}
use mathlib.Core.Path.{◌≡◌}
use lib.ListN.{length}
use Rattle.index.specs.Places.{reached_at, PutsOn}
use Rattle.index.proofs.writing.put_all.Given as goal

abbrev pub invariant-loop-reached : goal.invariant-loop-reached
invariant-loop-reached l = (length l.out ≡ length l.initial.out) × PutsOn l.entries l.initial.out (reached_at 0 0 0 0) l.out l.reached

abbrev pub decreases-loop-reached : goal.decreases-loop-reached
decreases-loop-reached l = length l.entries - l.reached.at
