-- The dollar, the body, the end.
use Rattle.put.proofs.Chain.{◌⨾◌}
use Rattle.frame.proofs.seal.Goals as goal

pub returns : goal.returns
returns c =
    c.put-a0.ensures ⨾ (c.put_bytes-a1.ensures ⨾ (rw c.xor_of-x.ensures at c.put_end.ensures))
