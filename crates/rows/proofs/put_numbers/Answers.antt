use mathlib.Core.Path.{◌∙◌}
use native.Mathlib.Omega.{arith}
use borrow.Author.Rules.{rules}
use Rattle.put.specs.Wrote.{held}
use Rattle.rows.proofs.Laws.{numbers-end, numbers-next}
use Rattle.rows.proofs.put_numbers.Goals as goal

pub loop-z-preserved : goal.loop-z-preserved
loop-z-preserved c = record {
  length_kept = omega arith;
  all = numbers-next c.args.numbers.now c.loop-z.z-index (search rules) (omega arith) c.put_int-place.ensures ∙ c.loop-z.invariant.all;
}

pub returns : goal.returns
returns c =
    record { is = numbers-end c.args.numbers.now c.loop-z.z-index (held c.loop-z.place c.loop-z.out) (omega arith) ∙ c.loop-z.invariant.all }
