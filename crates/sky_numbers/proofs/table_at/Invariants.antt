-- The entries before place i are taken; the laws stand in Taking.
use Rattle.sky_numbers.proofs.Taking.{Taken}
use Rattle.sky_numbers.proofs.table_at.Given as goal

abbrev pub invariant-loop-i : goal.invariant-loop-i
invariant-loop-i l = Taken l.numbers l.i l.e-items
