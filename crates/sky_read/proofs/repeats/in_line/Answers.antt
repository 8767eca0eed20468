-- `repeats` meets its contract: four marks, one after another.
use Rattle.sky_read.proofs.RepeatLaws.{checked, has-mark, long}
use Rattle.sky_read.proofs.repeats.in_line.Goals as goal

pub mark-b0-requires : goal.mark-b0-requires
mark-b0-requires c =
    has-mark c.args.v c.requires.0 0 c.args.seen.now c.requires.1

pub mark-b1-requires : goal.mark-b1-requires
mark-b1-requires c =
    has-mark c.args.v c.requires.0 1 c.mark-b0.new.seen
    (long c.args.v c.requires.0 0 c.args.seen.now c.mark-b0.result c.mark-b0.new.seen c.mark-b0.ensures c.requires.1)

pub mark-b2-requires : goal.mark-b2-requires
mark-b2-requires c =
    has-mark c.args.v c.requires.0 2 c.mark-b1.new.seen
    (long c.args.v c.requires.0 1 c.mark-b0.new.seen c.mark-b1.result c.mark-b1.new.seen c.mark-b1.ensures
    (long c.args.v c.requires.0 0 c.args.seen.now c.mark-b0.result c.mark-b0.new.seen c.mark-b0.ensures c.requires.1))

pub mark-b3-requires : goal.mark-b3-requires
mark-b3-requires c =
    has-mark c.args.v c.requires.0 3 c.mark-b2.new.seen
    (long c.args.v c.requires.0 2 c.mark-b1.new.seen c.mark-b2.result c.mark-b2.new.seen c.mark-b2.ensures
    (long c.args.v c.requires.0 1 c.mark-b0.new.seen c.mark-b1.result c.mark-b1.new.seen c.mark-b1.ensures
    (long c.args.v c.requires.0 0 c.args.seen.now c.mark-b0.result c.mark-b0.new.seen c.mark-b0.ensures c.requires.1)))

pub returns : goal.returns
returns c =
    checked c.args.v c.requires.0 c.args.seen.now c.mark-b0.new.seen c.mark-b1.new.seen c.mark-b2.new.seen c.mark-b3.new.seen c.mark-b0.result
    c.mark-b1.result c.mark-b2.result c.mark-b3.result c.requires.1 c.mark-b0.ensures c.mark-b1.ensures c.mark-b2.ensures c.mark-b3.ensures
