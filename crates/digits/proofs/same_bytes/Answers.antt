-- `same_bytes` meets its contract: std's test of two slices is the one of the definition.
use mathlib.Core.Path.{◌∙◌}
use Rattle.digits.proofs.Sameness.{same-pointwise}
use Rattle.digits.proofs.same_bytes.Goals as goal

pub returns : goal.returns
returns c = c.eq.ensures ∙ same-pointwise _ _
