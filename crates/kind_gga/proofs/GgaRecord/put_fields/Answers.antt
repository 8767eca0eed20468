-- Field after field.
use Rattle.put.proofs.Chain.{◌then◌, fields-kept}
use Rattle.form.specs.Kind.{fields_for}
use Rattle.kind_gga.specs.Row.{gga_row}
use Rattle.kind_gga.proofs.GgaRecord.put_fields.Goals.{After-slice_known-12-1}
use Rattle.kind_gga.proofs.GgaRecord.put_fields.Goals as goal

pub returns : goal.returns
unfolding fields_for gga_row
returns c =
    c.time-a0.ensures then c.place-a1.ensures then c.one-a2.ensures then c.two-a3.ensures then c.number-a4.ensures
    then c.height-a5.ensures then c.unit-a6.ensures then c.height-a7.ensures then c.unit-a8.ensures
    then c.number-a9.ensures then c.four.ensures

pub shape_of-out : goal.shape_of-out
shape_of-out c = fields-kept (returns (goal.at.shape_of-out c).After-slice_known-12-1)
