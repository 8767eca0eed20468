-- The first wrong field is found from the last on, as the definition says.
use mathlib.Core.Path.{◌∙◌}
use Rattle.form.specs.Kind.{fault_by}
use Rattle.kind_gll.specs.Row.{gll_row}
use Rattle.kind_gll.proofs.wrong.Goals as goal

pub returns : goal.returns
unfolding fault_by gll_row
returns c =
    c.near.ensures ∙ rw (c.place.ensures, c.near-w5.ensures, c.maybe.ensures, c.near-w6.ensures, c.letter-2.ensures)
    (rw (c.near-w7.ensures, c.letter.ensures))
