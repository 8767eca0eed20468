-- The first wrong field is found from the last on, as the definition says.
use mathlib.Core.Path.{◌∙◌}
use mir.Syntax.{w32}
use mir.Facts.{to_z-of_z}
use mir.Val.{SFits}
use borrow.Author.Rules.{rules}
use Rattle.form.specs.Kind.{fault_by}
use Rattle.kind_rmc.specs.Row.{rmc_row}
use Rattle.kind_rmc.proofs.wrong.Goals as goal

pub returns : goal.returns
unfolding fault_by rmc_row
returns c =
    let fits1 : SFits w32 c.args.r.variation.value =
    search rules in
    c.near.ensures ∙ rw (c.maybe-3.ensures, c.near-w2.ensures, c.letter-2.ensures, c.near-w3.ensures)
    (rw (c.place.ensures, c.near-w7.ensures, c.maybe-2.ensures, c.near-w8.ensures, c.maybe.ensures, c.near-w9.ensures)
    (rw (c.six.ensures, c.near-w10.ensures, c.signed.ensures)
    (rw (to_z-of_z {w = w32} {z = c.args.r.variation.value} (fits1), c.near-w12.ensures, c.letter.ensures))))
