-- The first wrong field is found from the last on, as the definition says.
use mathlib.Core.Path.{◌∙◌}
use Rattle.form.specs.Kind.{fault_by}
use Rattle.kind_vtg.specs.Row.{vtg_row}
use Rattle.kind_vtg.proofs.wrong.Goals as goal

pub returns : goal.returns
unfolding fault_by vtg_row
returns c =
    c.near.ensures ∙ rw (c.maybe-4.ensures, c.near-w3.ensures, c.maybe-3.ensures, c.near-w5.ensures)
    (rw (c.maybe-2.ensures, c.near-w7.ensures, c.maybe.ensures, c.near-w9.ensures, c.letter.ensures))
