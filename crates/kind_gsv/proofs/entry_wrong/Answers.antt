-- From the last on, where the entry is used.
use mathlib.Core.Path.{◌∙◌}
use Rattle.kind_gsv.proofs.entry_wrong.Goals as goal

pub returns-then-not-used : goal.returns-then-not-used
returns-then-not-used c = rw c.if-not-used.true

pub returns : goal.returns
returns c =
    c.near.ensures ∙ rw (c.if-not-used.false, c.within.ensures, c.near-w2.ensures)
    (rw (c.maybe-3.ensures, c.near-w3.ensures, c.maybe-2.ensures, c.near-w4.ensures, c.maybe.ensures))
