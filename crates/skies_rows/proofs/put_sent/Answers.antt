-- The value, or the sign that none was sent.
use Rattle.put.proofs.Chain.{◌⨾◌, as-text}
use Rattle.skies_rows.proofs.Laws.{not-sent, sent}
use Rattle.skies_rows.proofs.put_sent.Goals as goal

pub returns-then-v : goal.returns-then-v
returns-then-v c =
    as-text (sent c.args.v c.if-v.true) (c.put-a.ensures ⨾ c.put_number.ensures)

pub returns : goal.returns
returns c =
    as-text (not-sent c.args.v c.if-v.false) (c.put-a.ensures ⨾ c.put.ensures)
