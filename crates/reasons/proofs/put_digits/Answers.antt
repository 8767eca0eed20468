-- What a 2 says, then the two digits of the body.
use Rattle.put.proofs.Chain.{◌⨾◌}
use Rattle.reasons.proofs.put_digits.Goals as goal

pub returns : goal.returns
returns c =
    c.put_said-a0.ensures ⨾ (rw c.xor_of.ensures at c.put_pair-a1.ensures) ⨾ c.put_bytes.ensures
