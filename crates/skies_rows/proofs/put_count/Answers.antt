-- One satellite, or any other number of them.
use Rattle.put.proofs.Chain.{◌⨾◌, as-text}
use Rattle.skies_rows.proofs.Laws.{many, single}
use Rattle.skies_rows.proofs.put_count.Goals as goal

pub returns-then-count-eq1 : goal.returns-then-count-eq1
returns-then-count-eq1 c =
    as-text (single c.args.count c.if-count-eq1.true) (c.put_bytes-a1.ensures ⨾ (c.put_number-a2.ensures ⨾ c.put_bytes.ensures))

pub returns : goal.returns
returns c =
    as-text (many c.args.count c.if-count-eq1.false) (c.put_bytes-a1.ensures ⨾ (c.put_number-a2.ensures ⨾ c.put_bytes-2.ensures))
