use Prim.Native.Nat.{◌+◌, ◌-◌, ◌≤◌}
use mathlib.Core.Path.{◌≡◌}
use lib.ListN.{length}
use Rattle.index_sevens.specs.Sevens.{groups}
use Rattle.index_sevens.proofs.size.Given as goal

abbrev pub invariant-loop-n : goal.invariant-loop-n
invariant-loop-n l = (l.n ≤ 4) × (length (groups 5 l.v) ≡ l.n + length (groups (5 - l.n) l.left))
