-- Field after field.
use Rattle.put.proofs.Chain.{◌then◌}
use Rattle.form.specs.Kind.{fields_for}
use Rattle.kind_rmc.specs.Row.{rmc_row}
use Rattle.kind_rmc.proofs.RmcRecord.put_fields.Goals as goal

pub returns : goal.returns
unfolding fields_for rmc_row
returns c =
    c.time-a0.ensures then c.letter-a1.ensures then c.place-a2.ensures then c.number-a3.ensures then c.number-a4.ensures
    then c.six-a5.ensures then c.variation-a6.ensures then c.letter.ensures
