-- The parts of the row, one after another.
use Rattle.put.proofs.Chain.{◌⨾◌}
use Rattle.rows.proofs.put_row.Goals as goal

pub returns : goal.returns
returns c =
    c.put_number-a1.ensures
    ⨾ (c.put-a2.ensures ⨾ c.put_address-a3.ensures)
    ⨾ (c.put-a4.ensures ⨾ c.put_answer-a5.ensures)
    ⨾ c.put_asked-a6.ensures ⨾ c.put.ensures
