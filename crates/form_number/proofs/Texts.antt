-- The texts of numbers are clean, and no longer than their forms allow.
use Prim.Native.Nat.{◌≤◌, ℕ}
use mathlib.Core.Bool.{Bool}
use mathlib.Core.Path.{◌≡◌}
use native.Mathlib.Omega.{arith}
use lib.IntN.{nat_abs, ℤ}
use lib.ListN.{length}
use Rattle.digits.specs.Decimal.{print_fixed}
use Rattle.digits.specs.Plain.{number_text}
use Rattle.digits.specs.Sign.{sign_text}
use Rattle.digits.proofs.DecimalLaws.{length-fixed}
use Rattle.form.specs.Values.{if_there, maybe_text, range_wrong}
use Rattle.form.specs.declared.Maybe.{Maybe}
use Rattle.form.proofs.Clean.{Clean, clean-append, clean-fixed}
use Rattle.form.proofs.CleanTexts.{clean-if, clean-number, clean-sign, length-below, length-if, length-number}
use Rattle.form.proofs.Ranged.{ranged}
use Rattle.form_number.specs.Values.{height_field, height_text, kmh_field, knots_field, number_field}
use Rattle.form_number.specs.declared.Kmh.{Kmh}
use Rattle.form_number.specs.declared.Knots.{Knots}
use Rattle.form_number.specs.declared.Number.{Number}
use Rattle.form_number.specs.declared.Signed.{Signed}

pub clean-height : (z : ℤ) → Clean (height_text z)
clean-height z = clean-append (sign_text z) (number_text (nat_abs z)) (clean-sign z) (clean-number (nat_abs z))

pub field_fixed : (w : ℕ) (m : Maybe) → Clean (maybe_text (print_fixed w) m)
field_fixed w m = clean-if m.there (print_fixed w m.value) (clean-fixed w m.value)

pub field-number : (n : Number) → Clean (number_field n)
field-number n = clean-if n.there (number_text n.value) (clean-number n.value)

pub field-knots : (n : Knots) → Clean (knots_field n)
field-knots n = clean-if n.there (number_text n.value) (clean-number n.value)

pub field-kmh : (n : Kmh) → Clean (kmh_field n)
field-kmh n = clean-if n.there (number_text n.value) (clean-number n.value)

pub field-height : (n : Signed) → Clean (height_field n)
field-height n = clean-if n.there (height_text n.value) (clean-height n.value)

pub long-fixed : (w : ℕ) (m : Maybe) → length (maybe_text (print_fixed w) m) ≤ w
long-fixed w m = length-if m.there (print_fixed w m.value) w (omega (arith, length-fixed w m.value))

pub long-number : (there : Bool) (v : ℕ) → range_wrong 0 999999999 there v ≡ 0 → length (if_there there (number_text v)) ≤ 10
long-number there v e = ranged 0 999999999 there v 10 number_text e (λ h. length-number v (omega arith))

pub long-course : (there : Bool) (v : ℕ) → range_wrong 0 359999 there v ≡ 0 → length (if_there there (number_text v)) ≤ 7
long-course there v e = ranged 0 359999 there v 7 number_text e (λ h. length-below v (omega arith))
