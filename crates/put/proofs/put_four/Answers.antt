-- The first two, then the last two.
use Rattle.put.proofs.Chain.{four-digits}
use Rattle.put.proofs.put_four.Goals as goal

pub returns : goal.returns
returns c =
    four-digits c.args.v c.put_two-a.ensures c.put_two.ensures
