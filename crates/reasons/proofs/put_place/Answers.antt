-- By whether a length fails or a byte.
use Rattle.put.proofs.Chain.{◌⨾◌}
use borrow.Author.Tests.{lt-ltb, le-ltb}
use Rattle.reasons.specs.Reasons.{flaw_place}
use Rattle.reasons.proofs.put_place.Goals as goal

pub returns-then-f-lt3 : goal.returns-then-f-lt3
unfolding flaw_place
returns-then-f-lt3 c =
    rw (lt-ltb _ 3 c.if-f-lt3.true) (c.put_number-a.ensures ⨾ c.put_bytes.ensures)

pub returns : goal.returns
unfolding flaw_place
returns c =
    rw (le-ltb _ 3 c.if-f-lt3.false) (c.put_bytes-a0.ensures ⨾ c.put_number-a1.ensures
    ⨾ c.put_bytes-a2.ensures ⨾ (rw c.byte_at.ensures at c.put_byte-a3.ensures) ⨾ c.put_bytes-2.ensures)
