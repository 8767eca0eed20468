use Prim.Native.Nat.{◌-◌, ◌≤◌}
use mathlib.Core.Path.{◌≡◌}
use lib.ListN.{drop}
use Rattle.index_sevens.specs.Sevens.{onto, take_groups, within}
use Rattle.index_sevens.proofs.Steps.{Fine, joined}
use Rattle.index_sevens.proofs.take_more.Given as goal

abbrev pub invariant-loop-n : goal.invariant-loop-n
invariant-loop-n l = (l._n ≤ 5) ×
    (Fine l._n l.sum l.unit × (within (onto l.low (take_groups 4 (drop l.at l.s))) ≡ within (joined l.sum l.unit (take_groups (5 - l._n) (drop l.place l.s)))))
