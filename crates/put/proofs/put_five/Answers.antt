-- The digits before the last, then the last.
use Rattle.put.proofs.Chain.{one_more}
use Rattle.put.proofs.put_five.Goals as goal

pub returns : goal.returns
returns c =
    one_more 4 c.args.v c.put_four-a.ensures c.put_one.ensures
