-- The first wrong field is found from the last on, as the definition says.
use mathlib.Core.Path.{◌∙◌}
use Rattle.form.proofs.Empty.{never-wrong}
use Rattle.form.specs.Kind.{fault_by}
use Rattle.kind_pir_masks.specs.Reply.{pirsa_row}
use Rattle.kind_pir_masks.proofs.reply.wrong.Goals as goal

pub returns : goal.returns
unfolding fault_by pirsa_row
returns c =
    c.near.ensures ∙ rw (c.within-2.ensures, c.near-w2.ensures, c.within.ensures, never-wrong 2)
