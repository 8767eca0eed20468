-- `exact` meets its contract: the digits as `ranged` reads them.
use mathlib.Core.Path.{◌∙◌}
use Rattle.form_number.proofs.fixed.exact.Goals as goal

pub returns : goal.returns
returns c = c.told.ensures ∙ rw c.ranged.ensures
