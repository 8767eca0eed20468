-- The first wrong field is found from the last on, as the definition says.
use mathlib.Core.Path.{◌∙◌}
use mir.Syntax.{w32}
use mir.Facts.{to_z-of_z}
use mir.Val.{SFits}
use borrow.Author.Rules.{rules}
use Rattle.form.specs.Kind.{fault_by}
use Rattle.kind_pir_datum.specs.Reply.{pirta_row}
use Rattle.kind_pir_datum.proofs.reply.wrong.Goals as goal

pub returns : goal.returns
unfolding fault_by pirta_row
returns c =
    let fits1 : SFits w32 c.args.r.zone =
    search rules in
    c.near.ensures ∙ rw (c.within.ensures, c.near-w2.ensures, c.signed.ensures)
    (rw (to_z-of_z {w = w32} {z = c.args.r.zone} (fits1)))
