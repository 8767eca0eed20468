-- `line_refusal` meets its contract: it is what `pass` says.
use mathlib.Core.Path.{ap}
use Rattle.line.specs.declared.Passed.{Passed}
use Rattle.line.proofs.line_refusal.Goals as goal

pub returns : goal.returns
returns c = ap (λ (r : Passed). r.no) c.pass.ensures.value
