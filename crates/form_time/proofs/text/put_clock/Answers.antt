-- Hours, minutes, seconds.
use Rattle.put.proofs.Chain.{◌⨾◌}
use Rattle.form_time.proofs.text.put_clock.Goals as goal

pub returns : goal.returns
returns c =
    c.put_two-a0.ensures ⨾ (c.put_two-a1.ensures ⨾ c.put_seconds.ensures)
