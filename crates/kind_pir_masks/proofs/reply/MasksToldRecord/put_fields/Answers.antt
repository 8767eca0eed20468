-- Field after field.
use Rattle.put.proofs.Chain.{◌then◌}
use Rattle.form.specs.Kind.{fields_for}
use Rattle.kind_pir_masks.specs.Reply.{pirsa_row}
use Rattle.kind_pir_masks.proofs.reply.MasksToldRecord.put_fields.Goals as goal

pub returns : goal.returns
unfolding fields_for pirsa_row
returns c =
    c.eight-a0.ensures then c.six-a1.ensures then c.empty.ensures
