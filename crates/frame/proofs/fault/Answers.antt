-- By whether a field is wrong.
use mathlib.Core.Path.{◌∙◌}
use Rattle.frame.proofs.Sealing.{fault-none, fault-some}
use Rattle.frame.proofs.fault.Goals as goal

pub returns-then-wrong-eq0 : goal.returns-then-wrong-eq0
returns-then-wrong-eq0 c = c.done.ensures ∙ fault-none c.args.wrong c.if-wrong-eq0.true

pub returns : goal.returns
returns c = c.refuse.ensures ∙ fault-some c.args.wrong c.if-wrong-eq0.false
