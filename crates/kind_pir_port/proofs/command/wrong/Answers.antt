-- The first wrong field is found from the last on, as the definition says.
use mathlib.Core.Path.{◌∙◌}
use Rattle.form.specs.Kind.{fault_by}
use Rattle.kind_pir_port.specs.Command.{pirpr_row}
use Rattle.kind_pir_port.proofs.command.wrong.Goals as goal

pub returns : goal.returns
unfolding fault_by pirpr_row
returns c =
    c.near.ensures ∙ rw (c.maybe-3.ensures, c.near-w2.ensures, c.maybe-2.ensures, c.near-w3.ensures)
    (rw (c.alike-2.ensures, c.maybe.ensures, c.near-w4.ensures, c.alike.ensures, c.port_mask.ensures))
