use Rattle.sky_numbers.specs.Numbers.{table_layout}
use Rattle.sky_numbers.proofs.Taking.{taken_next, taken-all}
use Rattle.sky_numbers.proofs.table_at.Goals as goal

pub loop-i-preserved : goal.loop-i-preserved
loop-i-preserved c =
    taken_next c.args.numbers.now c.loop-i.invariant c.loop-i-test.true c.entry_at.ensures

pub returns : goal.returns
unfolding table_layout
returns c =
    rw (c.whole_at.ensures, taken-all c.args.numbers.now c.loop-i.invariant c.loop-i-test.false)
