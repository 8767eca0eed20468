-- Three fields, then the entries.
use Rattle.put.proofs.Chain.{◌then◌, no_field}
use Rattle.form.specs.Kind.{fields_for}
use Rattle.kind_gsv.specs.Row.{gsv_row}
use Rattle.kind_gsv.specs.Writing.{gsv_fields}
use Rattle.kind_gsv.proofs.GsvRecord.put_fields.Goals as goal

pub returns : goal.returns
unfolding gsv_fields fields_for gsv_row
returns c =
    c.one-a0.ensures then c.one-a1.ensures then c.two-a2.ensures
    then (c.put_entry-a3.ensures
    then (c.put_entry-a4.ensures then (c.put_entry-a5.ensures then (c.put_entry.ensures then no_field _))))
