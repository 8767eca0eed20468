-- Of what is left of the degrees: two digits, the point, four digits.
use mir.Syntax.{w32}
use mir.Facts.{to_z-of_z}
use lib.IntN.{nat_abs}
use Rattle.put.proofs.Chain.{◌⨾◌}
use Rattle.form_position.proofs.Splitting.{arc-minutes, arc-parts}
use borrow.Author.Rules.{rules}
use Rattle.form_position.proofs.text.put_arc.Goals as goal

pub returns : goal.returns
returns c = (rw (
  c.arc-arc.ensures,
  to_z-of_z {w = w32} {z = c.args.z} (search rules),
  arc-minutes (nat_abs c.args.z),
) at c.put_two-a0.ensures)
    ⨾ (c.put-a1.ensures
    ⨾ (rw (
      c.arc-arc.ensures,
      to_z-of_z {w = w32} {z = c.args.z} (search rules),
      arc-parts (nat_abs c.args.z),
    ) at c.put_four.ensures))
