-- `number` meets its contract: the number as `read` gives it.
use mathlib.Core.Path.{◌∙◌}
use Rattle.form_number.proofs.read.number.Goals as goal

pub returns : goal.returns
returns c = c.maybe.ensures ∙ rw c.read.ensures
