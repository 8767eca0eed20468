-- `rate` meets its contract: it is the definition's own steps.
use mathlib.Core.Path.{◌∙◌}
use Rattle.form_mask.specs.Rates.{rate_form, rate_of}
use Rattle.form_mask.proofs.plain.rate.Goals as goal

pub returns : goal.returns
unfolding rate_form rate_of
returns c = c.maybe.ensures ∙ rw (c.within.ensures, c.plain.ensures)
