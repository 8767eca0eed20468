-- Two fields.
use mir.Syntax.{w32}
use mir.Facts.{to_z-of_z}
use Rattle.put.proofs.Chain.{◌then◌}
use borrow.Author.Rules.{rules}
use Rattle.form_date.proofs.text.zone.Goals as goal

pub returns : goal.returns
returns c =
    c.hours-a.ensures
    then (rw (c.minutes-value.ensures, to_z-of_z {w = w32} {z = c.args.z.minutes} (search rules)) at c.two.ensures)
