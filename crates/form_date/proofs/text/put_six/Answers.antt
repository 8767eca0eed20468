-- Day, month, year.
use Rattle.put.proofs.Chain.{◌⨾◌}
use Rattle.form_date.proofs.text.put_six.Goals as goal

pub returns : goal.returns
returns c =
    c.put_two-a0.ensures ⨾ (c.put_two-a1.ensures ⨾ c.put_two.ensures)
