use mathlib.Core.Path.{◌∙◌}
use native.Mathlib.Omega.{arith}
use lib.ListN.{drop}
use Rattle.put.specs.Wrote.{held}
use Rattle.words.specs.Table.{number}
use Rattle.words.proofs.TableLaws.{fill-next, fill_end}
use Rattle.words.proofs.table.put_table.Goals as goal

pub loop-b-preserved : goal.loop-b-preserved
loop-b-preserved c =
    let next =
    fill-next c.args.table.now c.args.numbers.now c.loop-b.b-index (number c.loop-b.q) c.loop-b.n (omega arith) (number c.state-q.result) c.past-n-in-loop-b.result
    c.taken.result c.put_step-a.ensures c.taken.ensures c.past-n-in-loop-b.ensures.1 c.state-q.ensures in
    record { within = c.past-n-in-loop-b.ensures.0; length_kept = omega arith; all = next ∙ c.loop-b.invariant.all }

pub returns : goal.returns
returns c =
    record {
      is =
          fill_end c.args.table.now (drop c.loop-b.n c.args.numbers.now) c.loop-b.b-index (number c.loop-b.q) (held c.loop-b.a c.loop-b.out) (omega arith)
          ∙ c.loop-b.invariant.all;
    }
