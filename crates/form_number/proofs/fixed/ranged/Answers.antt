-- `ranged` meets its contract: digits read, then held to the range.
use mathlib.Core.Path.{◌∙◌}
use Rattle.form_number.specs.Fixed.{fixed_of}
use Rattle.form_number.proofs.fixed.ranged.Goals as goal

pub returns : goal.returns
unfolding fixed_of
returns c = c.within.ensures ∙ rw c.digits.ensures
