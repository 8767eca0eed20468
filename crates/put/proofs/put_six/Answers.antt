-- The digits before the last, then the last.
use Rattle.put.proofs.Chain.{one_more}
use Rattle.put.proofs.put_six.Goals as goal

pub returns : goal.returns
returns c =
    one_more 5 c.args.v c.put_five-a.ensures c.put_one.ensures
