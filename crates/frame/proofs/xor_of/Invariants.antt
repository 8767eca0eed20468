-- What is left, taken with the XOR so far, gives that of all.
use mathlib.Core.Path.{◌≡◌}
use lib.ListN.{drop}
use Rattle.line.specs.Line.{xor_from, xor_of}
use Rattle.frame.proofs.xor_of.Given as goal

abbrev pub invariant-loop-i : goal.invariant-loop-i
invariant-loop-i l = xor_from l.xor (drop l.i l.s) ≡ xor_of l.s
