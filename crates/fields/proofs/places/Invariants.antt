-- `places` meets its contract: the ends stored so far, with those of what is left of the body, are all of them.
use Prim.Native.Nat.{◌≤◌, ◌+◌}
use mathlib.Core.Path.{◌≡◌}
use lib.ListN.{length, drop}
use lib.Seq.{sets}
use Rattle.line.specs.Ends.{ends_from}
use Rattle.fields.proofs.places.Given as goal

abbrev pub invariant-loop-i : goal.invariant-loop-i
invariant-loop-i l =
    (l.n ≤ l.i) × (l.n + length (ends_from l.i (drop l.i l.s)) ≡ length (ends_from 0 l.s))
    × (sets l.p l.n (ends_from l.i (drop l.i l.s)) ≡ sets l.initial.p 0 (ends_from 0 l.s))
