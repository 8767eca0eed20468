-- Two digits, the point, two digits.
use Rattle.put.proofs.Chain.{◌⨾◌}
use Rattle.form_time.proofs.text.put_seconds.Goals as goal

pub returns : goal.returns
returns c =
    c.put_two-a0.ensures ⨾ (c.put-a1.ensures ⨾ c.put_two.ensures)
