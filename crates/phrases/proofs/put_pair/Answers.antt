-- The byte, then the digits.
use Rattle.put.proofs.Chain.{◌⨾◌}
use Rattle.phrases.proofs.put_pair.Goals as goal

pub returns : goal.returns
returns c = c.put-a.ensures ⨾ c.put_two.ensures
