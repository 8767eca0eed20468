-- Its comma, then the text where the value is there.
use mir.Syntax.{w32}
use mir.Facts.{to_z-of_z}
use Rattle.form.proofs.Texts.{absent, present}
use lib.IntN.{nat_abs}
use Rattle.form_position.specs.Angle.{angle_text}
use borrow.Author.Rules.{rules}
use Rattle.form_position.proofs.text.longitude.Goals as goal

pub returns-then-there : goal.returns-then-there
returns-then-there c = present c.args.there
    c.if-there.true c.put-a.ensures
    (rw (to_z-of_z {w = w32} {z = c.args.z}
    (search rules)) at c.put_longitude.ensures)

pub returns : goal.returns
returns c =
    absent (angle_text 3 (nat_abs c.args.z)) c.args.there c.if-there.false c.put-a.ensures
