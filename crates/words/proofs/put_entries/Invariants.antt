-- The satellites that are left, put from there on, are all of them put from the start.
use Prim.Native.Nat.{◌+◌, ◌*◌, ◌-◌, min}
use mathlib.Core.Path.{◌≡◌}
use lib.ListN.{length, drop}
use Rattle.put.specs.Wrote.{held, wrote}
use Rattle.words.specs.Words.{entries_text}
use Rattle.words.proofs.put_entries.Given as goal

abbrev pub invariant-loop-i : goal.invariant-loop-i
invariant-loop-i l = record {
  length_kept : length l.out ≡ length l.initial.out;
  all : wrote (held l.a l.out) (entries_text (min 4 l.count - l.i) (drop (5 + 7 * l.i) l.numbers))
      ≡ wrote (held l.at l.initial.out) (entries_text (min 4 l.count) (drop 5 l.numbers));
}
