-- The values before place i are stored; the laws stand in slots.

use Rattle.form.specs.Values.{no_maybe}
use Rattle.form.proofs.Numbers.{lawful-maybe}
use Rattle.numbers.proofs.Laying.{Stored}
use Rattle.kind_gsa.proofs.lay_twelve.Given as goal

abbrev pub invariant-loop-i : goal.invariant-loop-i
invariant-loop-i l = Stored lawful-maybe no_maybe l.s l.initial.out l.i l.out
