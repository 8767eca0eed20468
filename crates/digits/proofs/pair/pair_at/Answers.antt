-- `pair_at` meets its contract: fewer bytes hold no two digits, and else the part lent is the one of the definition.
use mathlib.Core.Path.{◌∙◌, sym}
use Rattle.std.proofs.Common.{arith, rules}
use Rattle.digits.specs.Pairs.{pair_at}
use Rattle.digits.proofs.PairLaws.{pair-lent, pair-short}
use Rattle.digits.proofs.pair.pair_at.Goals as goal

pub returns-in_err-get : goal.returns-in_err-get
returns-in_err-get c = c.from_residual.ensures ∙ sym (pair-short _ _ (grind arith))

pub returns-in_err-get-2 : goal.returns-in_err-get-2
returns-in_err-get-2 c = c.from_residual-in_err-get-2.ensures ∙ sym (pair-short _ _ (grind arith))

pub returns : goal.returns
unfolding pair_at
returns c = c.digits.ensures ∙ rw (pair-lent c.args.k c.args.f.now c.in_ok-get.field-0.now c.in_ok-get-2.field-0.now (search rules) (search rules) (search rules))
