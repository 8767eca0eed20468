-- By whether the bytes are a body.
use mathlib.Core.Path.{◌∙◌, sym}
use Rattle.bodies.proofs.Laws.{body-fault, no-body-fault}
use Rattle.bodies.proofs.fault_of.Goals as goal

pub returns-then-is_body : goal.returns-then-is_body
returns-then-is_body c = c.fault.ensures ∙ body-fault _ (sym c.is_body.ensures ∙ c.if-is_body.true)

pub returns : goal.returns
returns c = c.refuse.ensures ∙ no-body-fault _ (sym c.is_body.ensures ∙ c.if-is_body.false)
