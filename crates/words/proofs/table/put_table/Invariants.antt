-- The rows that are left, put from there on, are all rows put from the start.
use Prim.Native.Nat.{◌≤◌}
use mathlib.Core.Path.{◌≡◌}
use lib.ListN.{length, drop}
use Rattle.put.specs.Wrote.{held, wrote}
use Rattle.words.specs.Table.{filled, number}
use Rattle.words.proofs.table.put_table.Given as goal

abbrev pub invariant-loop-b : goal.invariant-loop-b
invariant-loop-b l = record {
  within : l.n ≤ length l.numbers;
  length_kept : length l.out ≡ length l.initial.out;
  all : wrote (held l.a l.out) (filled (number l.q) (drop l.b-index l.table) (drop l.n l.numbers)) ≡ wrote (held l.at l.initial.out) (filled 0 l.table (drop l.from l.numbers));
}
