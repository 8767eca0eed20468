-- `satellites` meets its contract: it is `maybe` of what `allowed` reads.
use mathlib.Core.Path.{◌∙◌}
use Rattle.form_mask.specs.Masks.{satellites_form}
use Rattle.form_mask.proofs.read.satellites.Goals as goal

pub returns : goal.returns
unfolding satellites_form
returns c = c.maybe.ensures ∙ rw c.allowed.ensures
