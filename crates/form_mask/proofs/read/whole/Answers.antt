-- `whole` meets its contract: it is the definition's own steps.
use mathlib.Core.Path.{◌∙◌}
use Rattle.form_mask.specs.Masks.{whole_form}
use Rattle.form_mask.proofs.read.whole.Goals as goal

pub returns : goal.returns
unfolding whole_form
returns c = c.told.ensures ∙ rw c.hex_digits.ensures
