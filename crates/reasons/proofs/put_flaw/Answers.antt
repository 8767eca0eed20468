-- Where the flaw is, then what it says.
use Rattle.put.proofs.Chain.{◌⨾◌}
use Rattle.reasons.proofs.put_flaw.Goals as goal

pub returns : goal.returns
returns c =
    c.put_place-a.ensures ⨾ (rw c.nth_of.ensures at c.put_bytes.ensures)
