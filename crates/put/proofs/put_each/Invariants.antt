-- The bytes before the index are put: what is left, put from there, is all of it put from the start.
use mathlib.Core.Path.{◌≡◌}
use lib.ListN.{drop}
use Rattle.put.specs.Wrote.{held, wrote}
use Rattle.put.proofs.put_each.Given as goal

abbrev pub invariant-loop-b : goal.invariant-loop-b
invariant-loop-b l = wrote (held l.place l.out) (drop l.b-index l.s) ≡ wrote (held l.at l.initial.out) l.s
