-- The digits before the last, then the last.
use Rattle.put.proofs.Chain.{one_more}
use Rattle.put.proofs.put_three.Goals as goal

pub returns : goal.returns
returns c =
    one_more 2 c.args.v c.put_two-a.ensures c.put_one.ensures
