-- The place, the row and the reason.
use Rattle.put.proofs.Chain.{◌⨾◌}
use Rattle.rows_words.proofs.put_told.Goals as goal

pub returns : goal.returns
returns c =
    c.put_place-a1.ensures ⨾ c.put_row-a2.ensures ⨾ c.put_reason.ensures
