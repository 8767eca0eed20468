-- Its comma, then the text where the value is there.
use mir.Syntax.{w32}
use mir.Facts.{to_z-of_z}
use Rattle.form.proofs.Texts.{absent, present}
use Rattle.form_date.specs.Zone.{hours_text}
use borrow.Author.Rules.{rules}
use Rattle.form_date.proofs.text.hours.Goals as goal

pub returns-then-z : goal.returns-then-z
returns-then-z c = present c.args.z.there
    c.if-z.true c.put-a.ensures
    (rw (to_z-of_z {w = w32} {z = c.args.z.minutes}
    (search rules)) at c.put_hours.ensures)

pub returns : goal.returns
returns c =
    absent (hours_text c.args.z.minutes) c.args.z.there c.if-z.false c.put-a.ensures
