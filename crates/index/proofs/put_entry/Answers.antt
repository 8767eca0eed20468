-- Three numbers of a byte each at once; else number by number.
use Rattle.put.proofs.Chain.{as-text}
use Rattle.index.proofs.Ranges.{skip_is, small-three, three-small}
use Rattle.index.proofs.put_entry.Goals as goal

pub put_three-requires : goal.put_three-requires
put_three-requires c = small-three c.less-gap.result c.less-skip.result
    c.args.e.length c.if-gap-skip.true

pub returns-then-gap-skip : goal.returns-then-gap-skip
returns-then-gap-skip c = let small = small-three c.less-gap.result
    c.less-skip.result
    c.args.e.length
    c.if-gap-skip.true in
    let skip = skip_is c.args.e
    c.args.last
    c.less.ensures
    c.less-skip.ensures in
    as-text (three-small c.args.last
    c.args.e
    c.less-gap.result
    c.less-skip.result
    c.less-gap.ensures skip small.0 small.1.0 small.1.1)
    c.put_three.ensures
