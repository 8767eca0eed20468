-- The talker, then the type.
use Rattle.put.proofs.Chain.{◌⨾◌}
use Rattle.frame.proofs.put_address.Goals as goal

pub returns : goal.returns
returns c = c.put_talker-a.ensures ⨾ c.put_bytes.ensures
