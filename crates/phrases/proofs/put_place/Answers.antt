-- The latitude, the longitude, each with its side.
use mir.Syntax.{w32}
use mir.Val.{SFits}
use mir.Facts.{to_z-of_z}
use Rattle.put.proofs.Chain.{◌⨾◌}
use Rattle.phrases.specs.Phrases.{place_words}
use borrow.Author.Rules.{rules}
use Rattle.phrases.proofs.put_place.Goals as goal

pub returns : goal.returns
unfolding place_words
returns c =
    let lat-fits : SFits w32 c.args.lat =
    search rules in
    let lon-fits : SFits w32 c.args.lon =
    search rules in
    let a = to_z-of_z (lat-fits) in
    let o = to_z-of_z (lon-fits) in
    (rw (c.size.ensures, a) at c.put_angle-a0.ensures) ⨾ (rw (c.pick.ensures, a) at c.put_bytes-a1.ensures)
    ⨾ (rw (c.size-2.ensures, o) at c.put_angle-a2.ensures) ⨾ (rw (c.pick-2.ensures, o) at c.put_bytes.ensures)
