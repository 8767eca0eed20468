-- The sign, then the number.
use mir.Syntax.{w32}
use mir.Val.{SFits}
use mir.Facts.{to_z-of_z}
use Rattle.put.proofs.Chain.{◌⨾◌}
use Rattle.phrases.specs.Phrases.{height_words}
use borrow.Author.Rules.{rules}
use Rattle.phrases.proofs.put_height.Goals as goal

pub returns : goal.returns
unfolding height_words
returns c =
    let fits : SFits w32 c.args.z =
    search rules in
    let e = to_z-of_z (fits) in
    (rw (c.pick.ensures, e) at c.put_bytes-a.ensures) ⨾ (rw (c.size.ensures, e) at c.put_number.ensures)
