-- `position` meets its contract: each half with its letter, then both.
use mathlib.Core.Path.{◌∙◌}
use lib.Dec.{lit<}
use Rattle.form_position.specs.Angle.{latitude_of, longitude_of, position_form}
use Rattle.form_position.proofs.AngleLaws.{angle-under}
use Rattle.form_position.proofs.read.position.Goals as goal

pub sided-a-requires : goal.sided-a-requires
sided-a-requires c = angle-under _ _ _ _ (lit< tt) c.angle.ensures

pub sided-o-requires : goal.sided-o-requires
sided-o-requires c = angle-under _ _ _ _ (lit< tt) c.angle-2.ensures

pub returns : goal.returns
unfolding position_form latitude_of longitude_of
returns c =
    c.both.ensures ∙ rw (c.sided-o.ensures, c.angle-2.ensures, c.sided-a.ensures, c.angle.ensures)
