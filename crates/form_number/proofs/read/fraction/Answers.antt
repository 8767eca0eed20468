-- `fraction` meets its contract: the digits times their place, which stay below a thousand.
use mathlib.Core.Path.{◌∙◌, sym}
use native.Mathlib.Omega.{arith}
use Rattle.std.proofs.lemmas.Bool.Decides.{nat_tests}
use Rattle.form_number.specs.Number.{thousandths}
use Rattle.form_number.proofs.NumberLaws.{fraction-lt}
use Rattle.form_number.proofs.read.fraction.Goals as goal

pub returns-in_err-m : goal.returns-in_err-m
unfolding thousandths
returns-in_err-m c = grind (arith, nat_tests)

pub overflow_mul-result : goal.overflow_mul-result
overflow_mul-result c =
    rw c.scale.ensures (omega (arith, fraction-lt c.args.t.now c.in_ok-m.m (sym c.digits.ensures ∙ c.in_ok-m.was)))

pub returns : goal.returns
unfolding thousandths
returns c = grind (arith, nat_tests)
