-- The sign, the hours, the minutes.
use mir.Syntax.{w32}
use mir.Val.{SFits}
use mir.Facts.{to_z-of_z}
use Rattle.put.proofs.Chain.{◌⨾◌}
use Rattle.phrases.specs.Phrases.{zone_words}
use borrow.Author.Rules.{rules}
use Rattle.phrases.proofs.put_zone.Goals as goal

pub returns : goal.returns
unfolding zone_words
returns c =
    let fits : SFits w32 c.args.z =
    search rules in
    let e = to_z-of_z (fits) in
    let n = rw e at c.size-minutes.ensures in
    (rw (c.pick.ensures, e) at c.put_bytes-a0.ensures) ⨾ (rw n at c.put_hours-a1.ensures) ⨾ (rw n at c.put_counted.ensures)
