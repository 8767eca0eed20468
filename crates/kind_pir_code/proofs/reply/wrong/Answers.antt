-- The first wrong field is found from the last on, as the definition says.
use mathlib.Core.Path.{◌∙◌}
use Rattle.form.specs.Kind.{fault_by}
use Rattle.kind_pir_code.specs.Reply.{pirea_row}
use Rattle.kind_pir_code.proofs.reply.wrong.Goals as goal

pub returns : goal.returns
unfolding fault_by pirea_row
returns c = c.near.ensures ∙ rw c.within.ensures
