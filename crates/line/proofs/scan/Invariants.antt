-- `scan` meets its contract: what was found so far, with what is left, gives what the whole gives.
use Prim.Native.Nat.{◌≤◌, ◌+◌}
use mathlib.Core.Path.{◌≡◌}
use mathlib.Core.Bool.{◌&&◌}
use lib.ListN.{length, drop}
use lib.Seq.{sets}
use Rattle.line.specs.Line.{body_bytes, xor_from, xor_of}
use Rattle.line.specs.Ends.{ends_from}
use Rattle.line.proofs.scan.Given as goal

abbrev pub invariant-loop-i : goal.invariant-loop-i
invariant-loop-i l = (body_bytes l.s ≡ (l.good && body_bytes (drop l.i l.s)))
    × (xor_of l.s ≡ xor_from l.xor (drop l.i l.s)) × (l.n ≤ l.i)
    × (l.n + length (ends_from l.i (drop l.i l.s)) ≡ length (ends_from 0 l.s)) × (sets l.p l.n (ends_from l.i (drop l.i l.s)) ≡ sets l.initial.p 0 (ends_from 0 l.s))
