-- The first wrong field is found from the last on, as the definition says.
use mathlib.Core.Path.{◌∙◌}
use mir.Syntax.{w32}
use mir.Facts.{to_z-of_z}
use mir.Val.{SFits}
use borrow.Author.Rules.{rules}
use Rattle.form.specs.Kind.{fault_by}
use Rattle.kind_pir_datum.specs.Command.{pirtr_row}
use Rattle.kind_pir_datum.proofs.command.wrong.Goals as goal

pub returns : goal.returns
unfolding fault_by pirtr_row
returns c =
    let fits1 : SFits w32 c.args.r.zone.minutes =
    search rules in
    c.near.ensures ∙ rw (c.maybe.ensures, c.near-w2.ensures, c.alike.ensures, c.signed.ensures)
    (rw (to_z-of_z {w = w32} {z = c.args.r.zone.minutes} (fits1)))
