-- The first wrong field is found from the last on, as the definition says.
use mathlib.Core.Path.{◌∙◌}
use Rattle.form.specs.Kind.{fault_by}
use Rattle.kind_gsa.specs.Row.{gsa_row, gsa_wrong}
use Rattle.kind_gsa.proofs.wrong.Goals as goal

pub returns : goal.returns
unfolding gsa_wrong fault_by gsa_row
returns c =
    c.near.ensures ∙ rw (c.letter.ensures, c.near-w2.ensures, c.within.ensures, c.satellites_wrong-w3.ensures)
    (rw (c.near-w15.ensures, c.maybe-3.ensures, c.near-w16.ensures, c.maybe-2.ensures, c.near-w17.ensures)
    (rw c.maybe.ensures))
