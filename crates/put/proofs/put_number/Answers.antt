-- The whole part, then the thousandths.
use Rattle.put.proofs.Chain.{◌⨾◌}
use Rattle.digits.specs.Plain.{number_text}
use Rattle.put.proofs.put_number.Goals as goal

pub returns : goal.returns
unfolding number_text
returns c = c.put_plain-a.ensures ⨾ c.put_fraction.ensures
