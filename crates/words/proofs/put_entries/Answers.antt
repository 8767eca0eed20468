use Prim.Native.Nat.{◌+◌, ◌*◌, ◌-◌, min}
use mathlib.Core.Path.{◌≡◌, ◌∙◌}
use native.Mathlib.Omega.{arith}
use Rattle.put.specs.Wrote.{held}
use Rattle.words.proofs.TableLaws.{entries-end, entries_next}
use Rattle.words.proofs.put_entries.Goals as goal

pub loop-i-preserved : goal.loop-i-preserved
loop-i-preserved c =
    let left = min 4 c.args.count - c.loop-i.i in let from = 5 + 7 * c.loop-i.i in
    let fewer : min 4 c.args.count - (c.loop-i.i + 1) ≡ left - 1 = omega arith in
    let further : 5 + 7 * (c.loop-i.i + 1) ≡ from + 7 = omega arith in
    record {
      length_kept = omega arith;
      all = rw (fewer, further) (entries_next c.args.numbers.now left from (omega arith) c.put_table-a.ensures) ∙ c.loop-i.invariant.all;
    }

pub returns : goal.returns
returns c =
    record {
      is = entries-end c.args.numbers.now (min 4 c.args.count - c.loop-i.i) (5 + 7 * c.loop-i.i) (held c.loop-i.a c.loop-i.out) (omega arith)
          ∙ c.loop-i.invariant.all;
    }
