-- Field after field.
use Rattle.put.proofs.Chain.{◌then◌}
use Rattle.form.specs.Kind.{fields_for}
use Rattle.kind_pir_port.specs.Reply.{pirpa_row}
use Rattle.kind_pir_port.proofs.reply.PortToldRecord.put_fields.Goals as goal

pub returns : goal.returns
unfolding fields_for pirpa_row
returns c =
    c.one-a0.ensures then c.plain-a1.ensures then c.one-a2.ensures then c.four.ensures
