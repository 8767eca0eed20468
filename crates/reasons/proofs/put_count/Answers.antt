-- The count, then how many the kind has.
use Rattle.put.proofs.Chain.{◌⨾◌}
use Rattle.fields.proofs.AllFields.{some}
use Rattle.reasons.proofs.put_count.Goals as goal

pub overflow_sub-count : goal.overflow_sub-count
overflow_sub-count c =
    rw c.places-count.ensures.fields (some c.args.body.now)

pub returns : goal.returns
returns c =
    c.put_said-a0.ensures ⨾ (rw c.places-count.ensures.fields at c.put_number-a1.ensures)
    ⨾ c.put_bytes-a2.ensures
    ⨾ (rw c.kind_no.ensures at c.put_count-a3.ensures) ⨾ c.put_bytes.ensures
