use mathlib.Core.Path.{◌∙◌, sym}
use Rattle.std.proofs.Common.{arith}
use Rattle.std.proofs.lemmas.Bool.Decides.{nat_tests}
use Rattle.digits.specs.Decimal.{digits_of}
use Rattle.digits.proofs.Bounds.{nine-lt}
use Rattle.digits.proofs.digits.Goals as goal

pub returns-then-s-lo : goal.returns-then-s-lo
unfolding digits_of
returns-then-s-lo c = grind (arith, nat_tests)

pub returns-in_err-v : goal.returns-in_err-v
unfolding digits_of
returns-in_err-v c = grind (arith, nat_tests)

pub overflow_cast-result : goal.overflow_cast-result
overflow_cast-result c = omega (arith, nine-lt c.args.s.now c.in_ok-v.v (omega arith) (sym c.decimal.ensures ∙ c.in_ok-v.was))

pub returns : goal.returns
unfolding digits_of
returns c = grind (arith, nat_tests)
