-- Field after field.
use Rattle.put.proofs.Chain.{◌then◌}
use Rattle.form.specs.Kind.{fields_for}
use Rattle.kind_zda.specs.Row.{zda_row}
use Rattle.kind_zda.proofs.ZdaRecord.put_fields.Goals as goal

pub returns : goal.returns
unfolding fields_for zda_row
returns c =
    c.time-a0.ensures then c.three-a1.ensures then c.zone.ensures
