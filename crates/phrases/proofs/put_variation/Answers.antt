-- The number, then its side.
use mir.Syntax.{w32}
use mir.Val.{SFits}
use mir.Facts.{to_z-of_z}
use Rattle.put.proofs.Chain.{◌⨾◌}
use Rattle.phrases.specs.Phrases.{variation_words}
use borrow.Author.Rules.{rules}
use Rattle.phrases.proofs.put_variation.Goals as goal

pub returns : goal.returns
unfolding variation_words
returns c =
    let fits : SFits w32 c.args.z =
    search rules in
    let e = to_z-of_z (fits) in
    (rw (c.size.ensures, e) at c.put_number-a.ensures) ⨾ (rw (c.pick.ensures, e) at c.put_bytes.ensures)
