-- The number, the place and the words.
use Rattle.put.proofs.Chain.{◌⨾◌}
use Rattle.skies_rows.proofs.put_refused.Goals as goal

pub returns : goal.returns
returns c =
    c.put_bytes-a1.ensures
    ⨾ (c.put_number-a2.ensures ⨾ (c.put_where-a3.ensures ⨾ (c.put_refusal-a4.ensures ⨾ c.put.ensures)))
