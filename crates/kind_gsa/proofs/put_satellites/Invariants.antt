-- The fields of the satellites before the place of the loop stand behind what was there.
use Rattle.std.proofs.Common.{◌≤◌, length, take}
use Rattle.std.specs.Prelude.{map}
use Rattle.put.specs.Wrote.{held, PutsFields}
use Rattle.kind_gsa.specs.Row.{satellite_text}
use Rattle.kind_gsa.proofs.put_satellites.Given as goal

abbrev pub invariant-loop-m : goal.invariant-loop-m
invariant-loop-m l =
    (l.m-index ≤ length l.s) × PutsFields (held l.initial.a l.initial.out) (map satellite_text (take l.m-index l.s)) (held l.a l.out)
