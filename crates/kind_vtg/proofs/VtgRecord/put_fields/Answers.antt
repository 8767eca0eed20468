-- Field after field.
use Rattle.put.proofs.Chain.{◌then◌, fields-kept}
use Rattle.form.specs.Kind.{fields_for}
use Rattle.kind_vtg.specs.Row.{vtg_row}
use Rattle.kind_vtg.proofs.VtgRecord.put_fields.Goals.{After-slice_known-10-1}
use Rattle.kind_vtg.proofs.VtgRecord.put_fields.Goals as goal

pub returns : goal.returns
unfolding fields_for vtg_row
returns c =
    c.number-a0.ensures then c.unit-a1.ensures then c.number-a2.ensures then c.unit-a3.ensures then c.number-a4.ensures
    then c.unit-a5.ensures then c.number-a6.ensures then c.unit-a7.ensures then c.letter.ensures

pub shape_of-out : goal.shape_of-out
shape_of-out c = fields-kept (returns (goal.at.shape_of-out c).After-slice_known-10-1)
