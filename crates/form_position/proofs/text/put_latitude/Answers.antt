-- Degrees, then minutes.
use mir.Syntax.{w32}
use mir.Facts.{to_z-of_z}
use Rattle.put.proofs.Chain.{◌⨾◌}
use borrow.Author.Rules.{rules}
use Rattle.form_position.proofs.text.put_latitude.Goals as goal

pub returns : goal.returns
returns c = (rw (
  c.degrees.ensures,
  to_z-of_z {w = w32} {z = c.args.z} (search rules),
) at c.put_two-a.ensures)
    ⨾ (rw (to_z-of_z {w = w32} {z = c.args.z}
    (search rules)) at c.put_arc.ensures)
