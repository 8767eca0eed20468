-- `port_mask` meets its contract: it is `maybe` of what `port_bits` reads.
use mathlib.Core.Path.{◌∙◌}
use Rattle.form_mask.specs.Masks.{port_mask_form}
use Rattle.form_mask.proofs.read.port_mask.Goals as goal

pub returns : goal.returns
unfolding port_mask_form
returns c = c.maybe.ensures ∙ rw c.port_bits.ensures
