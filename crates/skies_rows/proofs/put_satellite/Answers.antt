-- The four values and LF.
use Rattle.put.proofs.Chain.{◌⨾◌}
use Rattle.skies_rows.proofs.put_satellite.Goals as goal

pub returns : goal.returns
returns c =
    c.put_number-a1.ensures
    ⨾ (c.put_sent-a2.ensures ⨾ (c.put_sent-a3.ensures ⨾ (c.put_sent-a4.ensures ⨾ c.put.ensures)))
