-- Field after field.
use borrow.Author.Rules.{rules}
use Rattle.put.proofs.Chain.{◌then◌}
use Rattle.form.specs.Kind.{fields_for}
use Rattle.kind_pir_masks.specs.Command.{pirsr_row}
use Rattle.kind_pir_masks.proofs.command.MasksAskedRecord.put_fields.Goals as goal

pub returns : goal.returns
unfolding fields_for pirsr_row
returns c = search (rules, ◌then◌)
