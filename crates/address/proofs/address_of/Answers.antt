-- `address_of` meets its contract: the sixth byte decides, since no known address has a comma in it.
use mathlib.Core.Path.{◌∙◌}
use native.Mathlib.Omega.{arith}
use Rattle.address.proofs.Commas.{sixth-comma, sixth-other, no-sixth}
use Rattle.address.proofs.address_of.Goals.{then-body-lt6-via-then-body-lt6, then-body-lt6-via-else-body-lt6+then-body-ne44}
use Rattle.address.proofs.address_of.Goals as goal

pub returns-then-body-lt6 : goal.returns-then-body-lt6
returns-then-body-lt6 c = elim c.then-body-lt6.branch [
  | then-body-lt6-via-then-body-lt6 w ↦ no-sixth _ (omega arith)
  | then-body-lt6-via-else-body-lt6+then-body-ne44 w ↦ sixth-other _ w.if-body-ne44.true
]

pub returns : goal.returns
returns c = c.known_of.ensures ∙ sixth-comma _ c.if-body-ne44.false
