-- `time` meets its contract: it is `maybe` of what `of_day` reads.
use mathlib.Core.Path.{◌∙◌}
use Rattle.form_time.proofs.read.time.Goals as goal

pub returns : goal.returns
returns c = c.maybe.ensures ∙ rw c.of_day.ensures
