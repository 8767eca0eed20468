-- Three numbers, one behind the other.
use Rattle.put.proofs.Chain.{◌⨾◌}
use Rattle.index.specs.Index.{entry_bytes}
use Rattle.index.proofs.Ranges.{skip_is}
use Rattle.index.proofs.put_longer.Goals as goal

pub returns : goal.returns
unfolding entry_bytes
returns c = let skip = skip_is c.args.e
    c.args.last c.less-2.ensures
    c.less-3.ensures in
    (rw c.less.ensures at
    c.put-a0.ensures) ⨾
    ((rw skip at c.put-a1.ensures) ⨾ c.put.ensures)
