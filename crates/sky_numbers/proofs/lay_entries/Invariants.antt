-- The values before place i are stored; the laws stand in numbers.
use Rattle.kind_gsv.specs.Blank.{blank_entry}
use Rattle.kind_gsv.proofs.Numbers.{lawful-entry}
use Rattle.numbers.proofs.Laying.{Stored}
use Rattle.sky_numbers.proofs.lay_entries.Given as goal

abbrev pub invariant-loop-i : goal.invariant-loop-i
invariant-loop-i l = Stored lawful-entry blank_entry l.fn.s l.initial.out l.i l.out
