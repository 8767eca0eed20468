-- What the refusal says, then the colon.
use Rattle.put.proofs.Chain.{◌⨾◌}
use Rattle.reasons.proofs.put_said.Goals as goal

pub returns : goal.returns
returns c =
    c.put_refusal-a.ensures ⨾ c.put_bytes.ensures
