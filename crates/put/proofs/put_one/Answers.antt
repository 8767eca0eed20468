-- One digit is one byte.
use Rattle.put.proofs.Chain.{one-digit}
use Rattle.put.proofs.put_one.Goals as goal

pub returns : goal.returns
returns c =
    one-digit c.args.v (rw c.digit.ensures at c.put.ensures)
