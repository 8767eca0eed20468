-- The four parts, one after another.
use Rattle.put.proofs.Chain.{◌⨾◌, as-text}
use Rattle.skies_rows.proofs.Laws.{the-place}
use Rattle.skies_rows.proofs.put_place.Goals as goal

pub returns : goal.returns
returns c =
    as-text (the-place c.args.number c.args.offset)
    (c.put_number-a1.ensures ⨾ (c.put_bytes-a2.ensures ⨾ (c.put_number-a3.ensures ⨾ c.put_bytes.ensures)))
