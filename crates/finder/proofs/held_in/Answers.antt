-- Each return is a case of the definition.
use mathlib.Core.Path.{sym, ◌∙◌}
use native.Mathlib.Omega.{arith}
use Rattle.finder.proofs.Until.{held_low, held_high}
use Rattle.finder.proofs.held_in.Goals as goal

pub returns-then-until-i : goal.returns-then-until-i
returns-then-until-i c = sym (held_low _ _ c.if-until-i.true)

pub returns-then-left-gt82 : goal.returns-then-left-gt82
returns-then-left-gt82 c = sym (held_high _ _ (omega arith) ∙ omega arith)

pub returns : goal.returns
returns c = sym (held_high _ _ (omega arith))
