-- Field after field.
use Rattle.form.specs.Kind.{fields_for}
use Rattle.kind_pir_code.specs.Reply.{pirea_row}
use Rattle.kind_pir_code.proofs.reply.CodeToldRecord.put_fields.Goals as goal

pub returns : goal.returns
unfolding fields_for pirea_row
returns c = c.plain.ensures
