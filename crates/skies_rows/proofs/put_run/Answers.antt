-- A whole sky with its talker, or nobody's, which is refused.
use mathlib.Core.Path.{◌≡◌}
use lib.ListN.{length}
use Rattle.put.proofs.Chain.{◌⨾◌, as-text}
use Rattle.sky.specs.Group.{group_of}
use Rattle.numbers.proofs.Laying.{length-mapped}
use Rattle.skies_rows.proofs.Laws.{nobody, somebody}
use borrow.Author.Rules.{rules}
use Rattle.skies_rows.proofs.put_run.Goals as goal

pub returns-in_default : goal.returns-in_default
returns-in_default c =
    as-text (nobody c.args.number c.args.offset c.read-sky.result (group_of c.args.run.now) c.read-sky.ensures c.in_default.is)
    (c.put_bytes-a1.ensures ⨾ (c.put_place-a2.ensures ⨾ c.put_refused.ensures))

pub returns : goal.returns
returns c =
    let full : length c.read-sky.result.table.entries ≡ 36 =
    search (rules, length-mapped) in
    as-text (somebody c.args.number c.args.offset c.read-sky.result (group_of c.args.run.now) _ c.read-sky.ensures c.in-Some.is
    (full))
    (c.put_bytes-a3.ensures ⨾ (c.put_place-a4.ensures ⨾ c.put_sky.ensures))
