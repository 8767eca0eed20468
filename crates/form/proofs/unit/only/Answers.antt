-- `only` meets its contract: std's test of two slices is the one of the definition.
use mathlib.Core.Path.{◌∙◌}
use Rattle.digits.proofs.Sameness.{same-pointwise}
use Rattle.form.proofs.unit.only.Goals as goal

pub returns : goal.returns
returns c = c.eq.ensures ∙ (same-pointwise c.args.u.now c.as_slice.result.now ∙ rw c.as_slice.ensures)
