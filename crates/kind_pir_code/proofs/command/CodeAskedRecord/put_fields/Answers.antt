-- The one field.
use Rattle.digits.specs.Decimal.{print_fixed}
use Rattle.form.specs.Kind.{fields_for}
use Rattle.kind_pir_code.specs.Command.{pirer_row}
use Rattle.kind_pir_code.proofs.command.CodeAskedRecord.put_fields.Goals as goal

pub returns : goal.returns
unfolding fields_for pirer_row print_fixed
returns c = c.one.ensures
