-- The loop keeps that the answer for the whole is the answer for the bytes left, with what is held so far; each byte is one step of it.
use Prim.Native.Nat.{◌+◌, ◌≤◌, max}
use mathlib.Core.Path.{◌≡◌}
use lib.ListN.{drop, length}
use Rattle.finder.specs.Slice.{found_from, found_at}
use Rattle.finder.specs.Until.{held_in}
use Rattle.finder.proofs.next_line.Given as goal

abbrev pub invariant-loop-i : goal.invariant-loop-i
invariant-loop-i l = (l.i ≤ max l.at (length l.s)) × (l.until ≤ l.i + 81) × (held_in l.until l.i ≤ l.i) × (found_at l.s l.at ≡ found_from (held_in l.until l.i) l.i (drop l.i l.s))
