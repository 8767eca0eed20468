-- The laws of the rows of PIRER and PIREA, form by form: what is written is read back, what was read is in range, and which field a 5
-- names.
use mathlib.Core.Bool.{true}
use mathlib.Core.Path.{◌≡◌, refl}
use lib.Dec.{lit<, lit≤}
use Rattle.digits.specs.Ascii.{ascii}
use Rattle.digits.specs.Decimal.{print_fixed}
use Rattle.form.specs.Values.{outside}
use Rattle.form.proofs.Clean.{clean-fixed}
use Rattle.form.proofs.FormLaws.{lawful-single}
use Rattle.form.proofs.Laws.{Lawful, lawful-made, lawful-one, LawfulForm}
use Rattle.form.proofs.PlaceForms.{prefix-told}
use Rattle.form.proofs.PlaceLaws.{Prefix, prefix-made, prefix-one, PrefixForm}
use Rattle.form.proofs.Values.{the_got}
use Rattle.form_number.specs.Fixed.{exact_form, fixed_of}
use Rattle.form_number.proofs.Back.{exact-back}
use Rattle.form_number.proofs.FixedLaws.{fixed_reads}
use Rattle.form_mask.proofs.Laws.{lawful-code}
use Rattle.form_mask.proofs.Place.{prefix-code}
use Rattle.kind_pir_code.specs.Command.{pirer_row, zero_digit}
use Rattle.kind_pir_code.specs.Reply.{pirea_parts, pirea_row}

zero-digit : exact_form 1 0 0 (ascii "0") ≡ the_got true 0
unfolding print_fixed outside
zero-digit = exact-back 1 0 0 (lit≤ tt) (lit≤ tt) (lit< tt) 0 refl

pub lawful-zero_digit : LawfulForm zero_digit
lawful-zero_digit =
    lawful-single (exact_form 1 0 0) (λ v e. zero-digit) (λ v e. refl) (λ v e. refl) (λ s e. refl) (λ v e. ((lit< tt, lit< tt), tt))
    (λ v e. lit≤ tt)

pub prefix-zero_digit : PrefixForm zero_digit
prefix-zero_digit =
    prefix-told (fixed_of 1 0 0) (print_fixed 1 0) (clean-fixed 1 0) (fixed_reads 1 0 0 0 (lit≤ tt) (lit< tt) (lit≤ tt) (lit≤ tt))

pub lawful-pirer : Lawful pirer_row
unfolding pirer_row
lawful-pirer = lawful-one lawful-zero_digit

pub lawful-pirea : Lawful pirea_row
unfolding pirea_row
lawful-pirea =
    lawful-made _ _ pirea_parts (λ v. refl) (λ r. refl) (lawful-one lawful-code)

pub prefix-pirer : Prefix pirer_row
unfolding pirer_row
prefix-pirer = prefix-one prefix-zero_digit

pub prefix-pirea : Prefix pirea_row
unfolding pirea_row
prefix-pirea = prefix-made _ _ pirea_parts (λ v. refl) (prefix-one prefix-code)
