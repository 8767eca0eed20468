-- The sign, then the number.
use mir.Syntax.{w32}
use mir.Facts.{to_z-of_z}
use Rattle.put.proofs.Chain.{◌⨾◌}
use borrow.Author.Rules.{rules}
use Rattle.form_number.proofs.text.put_height.Goals as goal

pub returns : goal.returns
returns c = (rw (to_z-of_z {w = w32} {z = c.args.z}
    (search rules)) at c.put_sign-a.ensures)
    ⨾ (rw (
      c.size.ensures,
      to_z-of_z {w = w32} {z = c.args.z} (search rules),
    ) at c.put_number.ensures)
