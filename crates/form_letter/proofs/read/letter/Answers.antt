-- `letter` meets its contract: what `one_of` reads is told.
use mathlib.Core.Path.{◌∙◌}
use Rattle.form_letter.proofs.read.letter.Goals as goal

pub returns : goal.returns
returns c = c.told.ensures ∙ rw c.one_of.ensures
