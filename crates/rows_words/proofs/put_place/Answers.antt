-- The bytes before the line, a blank, the row and a blank.
use Rattle.put.proofs.Chain.{◌⨾◌}
use Rattle.rows_words.proofs.put_place.Goals as goal

pub returns : goal.returns
returns c =
    c.put_number-a1.ensures ⨾ (c.put-a2.ensures ⨾ c.put_number-a3.ensures) ⨾ c.put.ensures
