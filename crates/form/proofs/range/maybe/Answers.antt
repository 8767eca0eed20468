-- By whether the value is there.
use mathlib.Core.Path.{◌∙◌}
use Rattle.form.specs.Values.{range_wrong}
use Rattle.form.proofs.range.maybe.Goals as goal

pub returns-then-m : goal.returns-then-m
unfolding range_wrong
returns-then-m g c = c.within.ensures ∙ rw (← c.sent-m.ensures, c.if-m.true)

pub returns-else-m : goal.returns-else-m
unfolding range_wrong
returns-else-m g c = c.within-else-m.ensures ∙ rw (← c.sent-m.ensures, c.if-m.false)
