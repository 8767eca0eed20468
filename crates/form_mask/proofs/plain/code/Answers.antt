-- `code` meets its contract: it is the definition's own steps.
use mathlib.Core.Path.{◌∙◌}
use Rattle.form_mask.specs.Rates.{code_form, code_of}
use Rattle.form_mask.proofs.plain.code.Goals as goal

pub returns : goal.returns
unfolding code_form code_of
returns c = c.told.ensures ∙ rw (c.within.ensures, c.plain.ensures)
