-- Four fields.
use mir.Syntax.{w32}
use mir.Facts.{to_z-of_z}
use Rattle.put.proofs.Chain.{◌then◌}
use borrow.Author.Rules.{rules}
use Rattle.form_position.proofs.text.place.Goals as goal

pub returns : goal.returns
returns c = (rw (to_z-of_z {w = w32} {z = c.args.p.lat} (search rules)) at
    c.latitude-a0.ensures) then (rw (to_z-of_z {w = w32} {z = c.args.p.lat} (search rules)) at
    c.side-a1.ensures)
    then (rw (to_z-of_z {w = w32} {z = c.args.p.lon} (search rules)) at
    c.longitude-a2.ensures)
    then (rw (to_z-of_z {w = w32} {z = c.args.p.lon} (search rules)) at c.side.ensures)
