use mathlib.Core.Path.{sym, ◌∙◌}
use native.Mathlib.Omega.{arith}
use Rattle.std.proofs.Common.{rules}
use Rattle.digits.specs.Decimal.{is_digit}
use Rattle.digits.proofs.Powers.{step-lt}
use Rattle.digits.proofs.DecimalLaws.{room-lt, scan-digit, scan-end, scan-other}
use Rattle.digits.proofs.decimal.Goals as goal

pub returns-then-not-is_ascii_digit : goal.returns-then-not-is_ascii_digit
unfolding is_digit
returns-then-not-is_ascii_digit c =
    sym (scan-other _ _ _ c.loop-b-test.true (sym c.is_ascii_digit.ensures.value ∙ c.if-not-is_ascii_digit.true)) ∙ c.loop-b.invariant.1

pub overflow_mul-acc : goal.overflow_mul-acc
overflow_mul-acc c = omega (arith, room-lt {i = c.loop-b.b-index} (omega arith) c.loop-b.invariant.0)

pub overflow_add-acc : goal.overflow_add-acc
overflow_add-acc c = omega (arith, room-lt {i = c.loop-b.b-index} (omega arith) c.loop-b.invariant.0, c.type_inv.s c.loop-b.b-index)

pub loop-b-preserved : goal.loop-b-preserved
unfolding is_digit
loop-b-preserved c = (
  step-lt 10 c.loop-b.b-index c.loop-b.invariant.0 (search rules),
  rw c.from.ensures (sym (scan-digit _ _ _ c.loop-b-test.true (sym c.is_ascii_digit.ensures.value ∙ c.if-not-is_ascii_digit.false))
      ∙ c.loop-b.invariant.1),
)

pub returns : goal.returns
returns c = sym (scan-end _ _ _ c.loop-b-test.false) ∙ c.loop-b.invariant.1
