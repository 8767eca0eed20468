-- Three fields.
use Rattle.put.proofs.Chain.{◌then◌}
use Rattle.form_date.proofs.text.three.Goals as goal

pub returns : goal.returns
returns c =
    c.two-a0.ensures then c.two-a1.ensures then c.four.ensures
