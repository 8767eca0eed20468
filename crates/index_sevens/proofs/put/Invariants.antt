use Prim.Native.Nat.{◌-◌, ◌≤◌}
use mathlib.Core.Path.{◌≡◌}
use lib.ListN.{length}
use Rattle.put.specs.Wrote.{held, wrote}
use Rattle.index_sevens.specs.Sevens.{groups}
use Rattle.index_sevens.proofs.put.Given as goal

abbrev pub invariant-loop-n : goal.invariant-loop-n
invariant-loop-n l = (l._n ≤ 5) ×
    ((length l.out ≡ length l.initial.out) × (wrote (held l.place l.out) (groups (5 - l._n) l.left) ≡ wrote (held l.at l.initial.out) (groups 5 l.v)))
