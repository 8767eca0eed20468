-- The place of a 5 in masks, rates and codes: they may be empty, or their least value is a text that they read.
use Prim.Native.Nat.{◌^◌, ◌≤◌, suc, ℕ}
use mathlib.Core.Bool.{true}
use mathlib.Core.List.{List}
use mathlib.Core.Path.{◌≡◌, ap, refl}
use native.Mathlib.Omega.{arith}
use Rattle.digits.specs.Plain.{plain_text}
use Rattle.form.specs.Values.{outside}
use Rattle.form.specs.declared.got.Got.{Got}
use Rattle.form.proofs.CleanTexts.{clean-plain}
use Rattle.form.proofs.PlaceForms.{got-most, prefix-maybe, prefix-told}
use Rattle.form.proofs.PlaceLaws.{prefix-single, PrefixForm}
use Rattle.form.proofs.PlaceNeeded.{Told}
use Rattle.form.proofs.Values.{the_got}
use Rattle.form_mask.specs.Forms.{code, port_mask, rate, satellite_mask, whole_mask}
use Rattle.form_mask.specs.Masks.{hex_digits_of, is_port_mask, port_mask_form, port_mask_of, port_wrong, print_hex, satellites_form}
use Rattle.form_mask.specs.Masks.{satellites_of, whole_form}
use Rattle.form_mask.specs.Rates.{code_form, code_of, rate_form, rate_least, rate_of}
use Rattle.form_mask.proofs.Back.{clean-hex, code-back, port-back, rate-told}
use Rattle.form_mask.proofs.MaskText.{text-whole}

pub prefix-rate : PrefixForm rate
unfolding rate_form
prefix-rate = prefix-maybe rate_of

pub prefix-port_mask : PrefixForm port_mask
unfolding port_mask_form
prefix-port_mask = prefix-maybe port_mask_of

pub prefix-satellite_mask : (w most : ℕ) → PrefixForm (satellite_mask w most)
unfolding satellites_form
prefix-satellite_mask w most = prefix-maybe (satellites_of w)

pub prefix-whole_mask : (w most : ℕ) → w ≤ 8 → suc most ≡ 16 ^ w → PrefixForm (whole_mask w most)
unfolding whole_form
prefix-whole_mask w most eight all =
    prefix-told (hex_digits_of w w) (print_hex w 0) (clean-hex w 0) (text-whole w 0 eight (omega (arith, all)))

-- A code: 0.
code-zero : code_form (plain_text 0) ≡ the_got true 0
unfolding outside
code-zero = code-back 0 refl

code-most : (f : List ℕ) → (code_form f).wrong ≤ 1
unfolding code_form
code-most f = got-most (code_of f)

pub prefix-code : PrefixForm code
prefix-code = prefix-single code_form code-most (plain_text 0) (clean-plain 0) (ap (λ (g : Got). g.wrong) code-zero)

pub told-rate : Told rate
unfolding outside
told-rate = record { text = plain_text rate_least; clean = clean-plain rate_least; value = rate_least; good = rate-told rate_least refl }

pub told-port_mask : Told port_mask
unfolding port_wrong is_port_mask
told-port_mask = record { text = print_hex 4 0; clean = clean-hex 4 0; value = 0; good = port-back true 0 refl }
