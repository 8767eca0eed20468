-- The numbers of the entries before the place are laid; those of the rest, laid behind them, are all. Bytes that are no entry do not come,
-- since the bytes are an index.
use Prim.Native.Nat.{◌-◌}
use mathlib.Core.Path.{◌≡◌}
use lib.ListN.{length}
use Rattle.index.specs.Places.{laid_at, LaysOn}
use Rattle.index.proofs.reading.lay_all.Given as goal

abbrev pub invariant-loop-laid : goal.invariant-loop-laid
invariant-loop-laid l = (length l.out ≡ length l.initial.out) × LaysOn l.s l.initial.out (laid_at 0 0 0 0) l.out l.laid

abbrev pub decreases-loop-laid : goal.decreases-loop-laid
decreases-loop-laid l = length l.s - l.laid.at
