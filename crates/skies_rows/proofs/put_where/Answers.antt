-- The five parts, one after another.
use Rattle.put.proofs.Chain.{◌⨾◌, as-text}
use Rattle.skies_rows.proofs.Laws.{the-where}
use Rattle.skies_rows.proofs.put_where.Goals as goal

pub returns : goal.returns
returns c =
    as-text (the-where c.args.line c.args.field)
    (c.put_bytes-a1.ensures
    ⨾ (c.put_number-a2.ensures ⨾ (c.put_bytes-a3.ensures ⨾ (c.put_number-a4.ensures ⨾ c.put_bytes.ensures))))
