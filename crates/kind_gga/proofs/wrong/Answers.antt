-- The first wrong field is found from the last on, as the definition says.
use mathlib.Core.Path.{◌∙◌}
use mir.Syntax.{w32}
use mir.Facts.{to_z-of_z}
use mir.Val.{SFits}
use borrow.Author.Rules.{rules}
use Rattle.form.specs.Kind.{fault_by}
use Rattle.kind_gga.specs.Row.{gga_row}
use Rattle.kind_gga.proofs.wrong.Goals.{Start}
use Rattle.kind_gga.proofs.wrong.Goals as goal

fits1 : (c : Start) → SFits w32 c.args.r.altitude.value
fits1 c = search rules

fits2 : (c : Start) → SFits w32 c.args.r.geoid.value
fits2 c = search rules

pub returns : goal.returns
unfolding fault_by gga_row
returns c =
    c.near.ensures ∙ rw (c.maybe-5.ensures, c.near-w2.ensures, c.place.ensures, c.near-w6.ensures, c.within.ensures)
    (rw (c.near-w7.ensures, c.maybe-4.ensures, c.near-w8.ensures, c.maybe-3.ensures, c.near-w9.ensures, c.signed-2.ensures)
    (rw (to_z-of_z {w = w32} {z = c.args.r.altitude.value} (fits1 (goal.at.returns c).Start), c.near-w11.ensures, c.signed.ensures)
    (rw (to_z-of_z {w = w32} {z = c.args.r.geoid.value} (fits2 (goal.at.returns c).Start), c.near-w13.ensures, c.maybe-2.ensures)
    (rw (c.near-w14.ensures, c.maybe.ensures)))))
