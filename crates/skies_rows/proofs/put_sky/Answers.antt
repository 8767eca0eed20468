-- The talker, the count and the satellites.
use Rattle.put.proofs.Chain.{◌⨾◌}
use Rattle.skies_rows.proofs.put_sky.Goals as goal

pub returns : goal.returns
returns c =
    c.put_talker-a1.ensures ⨾ (c.put_count-a2.ensures ⨾ c.put_satellites.ensures)
