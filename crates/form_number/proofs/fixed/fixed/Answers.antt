-- `fixed` meets its contract: the digits as `ranged` reads them.
use mathlib.Core.Path.{◌∙◌}
use Rattle.form_number.proofs.fixed.fixed.Goals as goal

pub returns : goal.returns
returns c = c.maybe.ensures ∙ rw c.ranged.ensures
