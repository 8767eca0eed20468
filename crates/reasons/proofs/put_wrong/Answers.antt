-- The field's bytes, its number, then its words.
use Rattle.put.proofs.Chain.{◌⨾◌}
use Rattle.reasons.proofs.put_wrong.Goals as goal

pub returns : goal.returns
returns c =
    (rw c.field_of.ensures at c.put_quoted-a0.ensures) ⨾ c.put_bytes-a1.ensures ⨾ c.put_number-a2.ensures
    ⨾ c.put_bytes-a3.ensures ⨾ (rw (c.kind_no.ensures, c.body_of.ensures) at c.put_field.ensures)
