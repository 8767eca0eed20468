-- Two fields.
use mir.Syntax.{w32}
use mir.Facts.{to_z-of_z}
use Rattle.put.proofs.Chain.{◌then◌}
use borrow.Author.Rules.{rules}
use Rattle.form_position.proofs.text.variation.Goals as goal

pub returns : goal.returns
returns c = (rw (
  c.size-value.ensures,
  to_z-of_z {w = w32} {z = c.args.n.value}
      (search rules),
) at c.number-a.ensures)
    then (rw (to_z-of_z {w = w32} {z = c.args.n.value} (search rules)) at c.side.ensures)
