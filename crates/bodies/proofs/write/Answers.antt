-- The body is all of the bytes that are lent.
use Rattle.bodies.proofs.Laws.{as-framed}
use Rattle.bodies.proofs.write.Goals as goal

pub returns : goal.returns
returns c =
    as-framed c.args.body.now c.fault_of-fault.ensures c.finish.ensures
