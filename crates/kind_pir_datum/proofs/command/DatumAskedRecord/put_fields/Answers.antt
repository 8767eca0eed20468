-- Field after field.
use Rattle.put.proofs.Chain.{◌then◌}
use Rattle.form.specs.Kind.{fields_for}
use Rattle.kind_pir_datum.specs.Command.{pirtr_row}
use Rattle.kind_pir_datum.proofs.command.DatumAskedRecord.put_fields.Goals as goal

pub returns : goal.returns
unfolding fields_for pirtr_row
returns c = c.one-a0.ensures then c.zone_four.ensures
