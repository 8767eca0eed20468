-- The first wrong field is found from the last on, as the definition says.
use mathlib.Core.Path.{◌∙◌}
use Rattle.form.specs.Values.{range_wrong}
use Rattle.form.specs.Kind.{fault_by}
use Rattle.kind_pir_port.specs.Reply.{pirpa_row}
use Rattle.kind_pir_port.proofs.reply.wrong.Goals as goal

pub returns : goal.returns
unfolding fault_by pirpa_row range_wrong
returns c =
    c.near.ensures ∙ rw (c.within-3.ensures, c.near-w2.ensures, c.within-2.ensures, c.near-w3.ensures)
    (rw (c.within.ensures, c.near-w4.ensures, c.port_mask.ensures))
