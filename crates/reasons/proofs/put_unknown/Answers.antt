-- What a 3 says, then the address.
use Rattle.put.proofs.Chain.{◌⨾◌}
use Rattle.reasons.proofs.put_unknown.Goals as goal

pub returns : goal.returns
returns c =
    c.put_said-a.ensures ⨾ (rw c.address_in.ensures at c.put_quoted.ensures)
