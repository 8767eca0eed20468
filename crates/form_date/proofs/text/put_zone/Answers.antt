-- Hours with their sign, then minutes.
use mir.Syntax.{w32}
use mir.Facts.{to_z-of_z}
use Rattle.put.proofs.Chain.{◌⨾◌, as-text}
use Rattle.form_date.proofs.Texts.{zone-text}
use borrow.Author.Rules.{rules}
use Rattle.form_date.proofs.text.put_zone.Goals as goal

pub returns : goal.returns
returns c = as-text (zone-text c.args.z)
    ((rw (to_z-of_z {w = w32} {z = c.args.z}
    (search rules)) at c.put_hours-a.ensures)
    ⨾ (rw (
      c.minutes.ensures,
      to_z-of_z {w = w32} {z = c.args.z} (search rules),
    ) at c.put_two.ensures))
