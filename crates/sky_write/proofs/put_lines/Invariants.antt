-- The lines before line k stand in the output.
use Rattle.sky_write.proofs.PutLaws.{Put}
use Rattle.sky_write.proofs.put_lines.Given as goal

abbrev pub invariant-loop-k : goal.invariant-loop-k
invariant-loop-k l = Put l.t l.r l.initial.out l.lines l.k l.at l.out
