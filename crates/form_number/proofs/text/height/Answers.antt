-- Its comma, then the text where the value is there.
use mir.Syntax.{w32}
use mir.Facts.{to_z-of_z}
use Rattle.form.proofs.Texts.{absent, present}
use Rattle.form_number.specs.Values.{height_text}
use borrow.Author.Rules.{rules}
use Rattle.form_number.proofs.text.height.Goals as goal

pub returns-then-z : goal.returns-then-z
returns-then-z c = present c.args.z.there
    c.if-z.true c.put-a.ensures
    (rw (to_z-of_z {w = w32} {z = c.args.z.value}
    (search rules)) at c.put_height.ensures)

pub returns : goal.returns
returns c =
    absent (height_text c.args.z.value) c.args.z.there c.if-z.false c.put-a.ensures
