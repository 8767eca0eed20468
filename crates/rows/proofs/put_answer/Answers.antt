-- `ok`, or `refused`, the number and the field.
use Rattle.put.proofs.Chain.{as-text, ◌⨾◌}
use Rattle.rows.proofs.Laws.{was_read, was-refused}
use Rattle.rows.proofs.put_answer.Goals as goal

pub returns-then-no-eq0 : goal.returns-then-no-eq0
returns-then-no-eq0 c =
    as-text (was_read c.args.no c.args.field c.if-no-eq0.true) c.put_bytes.ensures

pub returns : goal.returns
returns c =
    as-text (was-refused c.args.no c.args.field c.if-no-eq0.false)
    (c.put_bytes-a1.ensures ⨾ ((rw c.from.ensures at c.put_number-a2.ensures) ⨾ (c.put-a3.ensures ⨾ c.put_number.ensures)))
