-- The bytes between two quotes.
use Rattle.put.proofs.Chain.{◌⨾◌}
use Rattle.reasons.proofs.put_quoted.Goals as goal

pub returns : goal.returns
returns c =
    c.put-a0.ensures ⨾ (c.put_bytes-a1.ensures ⨾ c.put.ensures)
