-- `entry_in` meets its contract: a place that is not used is blank, any other has its four forms.
use mathlib.Core.Path.{◌∙◌}
use Rattle.kind_gsv.specs.Row.{entry_form}
use Rattle.kind_gsv.proofs.entry_in.Goals as goal

pub returns-then-not-used : goal.returns-then-not-used
unfolding entry_form
returns-then-not-used c = rw (c.if-not-used.true, c.entry.ensures)

pub returns : goal.returns
unfolding entry_form
returns c =
    c.entry_from.ensures ∙ rw (c.if-not-used.false, c.fixed-signal.ensures, c.fixed-azimuth.ensures)
    (rw (c.fixed-elevation.ensures, c.exact-number.ensures)
    (rw (c.at.ensures.holds, c.at-2.ensures.holds, c.at-3.ensures.holds, c.at-4.ensures.holds)))
