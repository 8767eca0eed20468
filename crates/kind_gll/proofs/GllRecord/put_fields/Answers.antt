-- Field after field.
use Rattle.put.proofs.Chain.{◌then◌}
use Rattle.form.specs.Kind.{fields_for}
use Rattle.kind_gll.specs.Row.{gll_row}
use Rattle.kind_gll.proofs.GllRecord.put_fields.Goals as goal

pub returns : goal.returns
unfolding fields_for gll_row
returns c =
    c.place-a0.ensures then c.time-a1.ensures then c.letter-a2.ensures then c.letter.ensures
