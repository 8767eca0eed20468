-- Masks, rates and codes are lawful forms.
use Prim.Native.Nat.{◌^◌, ◌≤◌, suc, ℕ}
use mathlib.Core.Bool.{Bool, cond, false, true}
use mathlib.Core.Path.{◌≡◌, refl}
use native.Mathlib.Omega.{arith}
use lib.Dec.{lit≤, ltb}
use lib.ListN.{length}
use borrow.Author.Tests.{lt-ltb}
use Rattle.digits.specs.Plain.{plain_text, width_of}
use Rattle.digits.proofs.DecimalLaws.{length-fixed}
use Rattle.form.proofs.CleanTexts.{clean-plain}
use Rattle.form.proofs.FormLaws.{lawful-single}
use Rattle.form.proofs.Laws.{LawfulForm}
use Rattle.form.proofs.Values.{inside}
use Rattle.form_mask.specs.Forms.{code, port_mask, rate, satellite_mask, whole_mask}
use Rattle.form_mask.specs.Masks.{port_mask_form, satellites_form, whole_form}
use Rattle.form_mask.specs.Rates.{code_form, code_most, rate_form}
use Rattle.form_mask.proofs.Back.{clean-hex, code-back, code_in, field-hex, field_plain, long-hex, long-rate, port-back, port-in}
use Rattle.form_mask.proofs.Back.{rate-back, rate-in, satellites-back, satellites-in, whole_back, whole_in}
use Rattle.form_mask.proofs.MaskText.{length-hex}

-- Rates, masks and codes.
pub lawful-rate : LawfulForm rate
lawful-rate =
    lawful-single rate_form (λ m. rate-back m.there m.value) (λ m e. refl) (λ m e. refl) rate-in (λ m e. field_plain m)
    (λ m e. omega (arith, long-rate m.there m.value e))

pub lawful-port_mask : LawfulForm port_mask
lawful-port_mask =
    lawful-single port_mask_form (λ m. port-back m.there m.value) (λ m e. refl) (λ m e. refl) port-in (λ m e. field-hex 4 m)
    (λ m e. omega (arith, long-hex 4 m))

module _ (w most : ℕ) (some : 1 ≤ w) (eight : w ≤ 8) (all : suc most ≡ 16 ^ w) where
  pub lawful-satellite_mask : LawfulForm (satellite_mask w most)
  lawful-satellite_mask =
      lawful-single (satellites_form w) (λ m. satellites-back w most some eight (omega (arith, all)) m.there m.value) (λ m e. refl)
      (λ m e. refl) (satellites-in w most (omega (arith, all))) (λ m e. field-hex w m) (λ m e. omega (arith, long-hex w m))

  pub lawful-whole_mask : LawfulForm (whole_mask w most)
  lawful-whole_mask =
      lawful-single (whole_form w) (whole_back w most some eight (omega (arith, all))) (λ v e. refl) (λ v e. refl)
      (whole_in w most (omega (arith, all))) (λ v e. clean-hex w v) (λ v e. omega (arith, length-hex w v))

three-digits : (v : ℕ) → v ≤ code_most → length (plain_text v) ≤ 3
unfolding plain_text width_of
three-digits v h = rw (length-fixed (width_of v) v, lt-ltb v 1000 (omega arith)) (go (ltb v 10) (ltb v 100))
  where
    go : (s t : Bool) → cond s 1 (cond t 2 3) ≤ 3
    go true t = lit≤ tt
    go false true = lit≤ tt
    go false false = lit≤ tt

pub lawful-code : LawfulForm code
lawful-code =
    lawful-single code_form code-back (λ v e. refl) (λ v e. refl) code_in (λ v e. clean-plain v)
    (λ v e. omega (arith, three-digits v (inside 0 code_most v e).1))
