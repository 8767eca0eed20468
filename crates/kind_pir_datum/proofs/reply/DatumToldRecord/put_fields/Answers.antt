-- Field after field.
use mir.Syntax.{w32}
use mir.Facts.{to_z-of_z}
use mir.Val.{SFits}
use Rattle.put.proofs.Chain.{◌then◌}
use borrow.Author.Rules.{rules}
use Rattle.form.specs.Kind.{fields_for}
use Rattle.kind_pir_datum.specs.Reply.{pirta_row}
use Rattle.kind_pir_datum.proofs.reply.DatumToldRecord.put_fields.Goals as goal

pub returns : goal.returns
unfolding fields_for pirta_row
returns c =
    let fits1 : SFits w32 c.args.self.zone =
    search rules in
    c.one-a0.ensures then (rw (to_z-of_z {w = w32} {z = c.args.self.zone} (fits1)) at c.zone_four.ensures)
