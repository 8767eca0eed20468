use mathlib.Core.Path.{◌∙◌, ◌≡◌, sym}
use mathlib.Core.Bool.{true}
use native.Mathlib.Omega.{arith}
use lib.ListN.{get_or}
use Rattle.digits.specs.Hex.{hex_digit}
use Rattle.digits.proofs.Powers.{step-lt}
use Rattle.digits.proofs.HexLaws.{hex-value-lt}
use Rattle.form_mask.proofs.MaskLaws.{hex-end, hex-off, hex-on, hex-room}
use Rattle.form_mask.proofs.read.scan_hex.Goals.{Else-not-is_hex}
use Rattle.form_mask.proofs.read.scan_hex.Goals as goal

-- The byte that was let through is a digit.
digit : (c : Else-not-is_hex) → hex_digit (get_or c.args.s.now c.loop-b.b-index 0) ≡ true
digit c = sym c.is_hex.ensures ∙ c.if-not-is_hex.false

pub returns-then-not-is_hex : goal.returns-then-not-is_hex
returns-then-not-is_hex c =
    sym (hex-off _ _ _ c.loop-b-test.true (sym c.is_hex.ensures ∙ c.if-not-is_hex.true)) ∙ c.loop-b.invariant.1

pub overflow_mul-acc : goal.overflow_mul-acc
overflow_mul-acc c = omega (arith, hex-room {i = c.loop-b.b-index} (omega arith) c.loop-b.invariant.0)

pub hex_value-requires : goal.hex_value-requires
hex_value-requires c = digit (goal.at.hex_value-requires c).Else-not-is_hex

pub overflow_add-acc : goal.overflow_add-acc
overflow_add-acc c =
    omega (
      arith,
      hex-room {i = c.loop-b.b-index} (omega arith) c.loop-b.invariant.0,
      hex-value-lt (get_or c.args.s.now c.loop-b.b-index 0) (digit (goal.at.overflow_add-acc c).Else-not-is_hex),
    )

pub loop-b-preserved : goal.loop-b-preserved
loop-b-preserved c = (
  step-lt 16 c.loop-b.b-index c.loop-b.invariant.0
      (rw c.hex_value.ensures (hex-value-lt _ (digit (goal.at.loop-b-preserved c).Else-not-is_hex))),
  rw c.hex_value.ensures (sym (hex-on _ _ _ c.loop-b-test.true (digit (goal.at.loop-b-preserved c).Else-not-is_hex))
      ∙ c.loop-b.invariant.1),
)

pub returns : goal.returns
returns c = sym (hex-end _ _ _ c.loop-b-test.false) ∙ c.loop-b.invariant.1
