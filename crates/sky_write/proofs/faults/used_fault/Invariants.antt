-- The entries from place i on decide as all do, and the marks are of those before it.
use mathlib.Core.Path.{◌≡◌}
use mathlib.Core.List.{[]}
use lib.ListN.{drop, length, take}
use Rattle.sky.specs.Marks.{Marks}
use Rattle.sky.specs.Table.{fault_from}
use Rattle.sky_write.proofs.faults.used_fault.Given as goal

abbrev pub invariant-loop-i : goal.invariant-loop-i
invariant-loop-i l = (length l.seen ≡ 100)
    × (Marks (take l.i l.used) l.seen × (fault_from 0 [] l.used ≡ fault_from l.i (take l.i l.used) (drop l.i l.used)))
