use mathlib.Core.Path.{◌∙◌}
use Rattle.index.proofs.reading.found_next.Goals as goal

pub returns-then-best-e : goal.returns-then-best-e
returns-then-best-e c = c.finding.ensures ∙ rw
    c.if-best-e.true

pub returns : goal.returns
returns c = rw c.if-best-e.false
