-- The numbers before place i are put: what is left, put from there, is all of it put from the start.
use mathlib.Core.Path.{◌≡◌}
use lib.ListN.{length, drop}
use Rattle.put.specs.Wrote.{held, wrote}
use Rattle.rows.specs.Row.{numbers_text}
use Rattle.rows.proofs.put_numbers.Given as goal

abbrev pub invariant-loop-z : goal.invariant-loop-z
invariant-loop-z l = record {
  length_kept : length l.out ≡ length l.initial.out;
  all : wrote (held l.place l.out) (numbers_text (drop l.z-index l.numbers)) ≡ wrote (held l.at l.initial.out) (numbers_text l.numbers);
}
