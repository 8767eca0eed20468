-- `below` meets its contract: the number as `less` gives it.
use mathlib.Core.Path.{◌∙◌}
use Rattle.form_number.proofs.read.below.Goals as goal

pub returns : goal.returns
returns c = c.maybe.ensures ∙ rw c.less.ensures
