-- The texts of masks, rates and codes are clean, they are read back, and those that were read are in their range.
use Prim.Native.Nat.{◌%◌, ◌/◌, ◌<◌, ◌^◌, ◌≤◌, suc, zero, ℕ}
use mathlib.Core.Bool.{Bool, cond, false, true}
use mathlib.Core.List.{[], ◌∷◌, List}
use Rattle.std.specs.Prelude.{None, Option, Some}
use mathlib.Core.Path.{◌≡◌, ap, refl}
use native.Mathlib.Omega.{arith}
use lib.Dec.{eqb, lit≤, ltb}
use lib.ListN.{length}
use borrow.Author.Tests.{le-ltb, lt-ltb, ltb-true, ne_eqb}
use Rattle.digits.specs.Hex.{hex_of}
use Rattle.digits.specs.Pick.{pick}
use Rattle.digits.specs.Plain.{plain_text, width_of}
use Rattle.digits.proofs.DecimalLaws.{length-fixed}
use Rattle.digits.proofs.Widths.{width_is}
use Rattle.form.specs.Got.{got_of, maybe_of, missing}
use Rattle.form.specs.Values.{if_there, maybe_text, outside, range_wrong}
use Rattle.form.specs.declared.Maybe.{Maybe}
use Rattle.form.proofs.Alike.{Held}
use Rattle.form.proofs.Clean.{Clean, clean-append}
use Rattle.form.proofs.CleanTexts.{clean-if, clean-plain, length-if, length-plain}
use Rattle.form.proofs.Ranged.{maybe-in, ranged, told_in, zero-outside}
use Rattle.form.proofs.Values.{inside, maybe_back, the_got, zero_one}
use Rattle.form_mask.specs.Masks.{hex_digits_of, is_port_mask, port_mask_form, port_mask_of, port_wrong, print_hex, satellites_form}
use Rattle.form_mask.specs.Masks.{satellites_of, whole_form}
use Rattle.form_mask.specs.Rates.{code_form, code_of, rate_form, rate_of}
use Rattle.form_mask.proofs.MaskLaws.{hex-lt, port-mask-is, satellites-lt}
use Rattle.form_mask.proofs.MaskText.{length-hex, text-port, text-satellites, text-whole}
use Rattle.form_mask.proofs.RateLaws.{code-text, PlainText, rate-range, text-code, text-rate}

-- A whole number, in as many digits as it needs.
pub plain-written : (lo hi n : ℕ) → n < 1000000 → lo ≤ width_of n → width_of n ≤ hi → PlainText lo hi (plain_text n) n
unfolding plain_text
plain-written lo hi n h a b =
    let w = width_is n h in
    record { width = width_of n; from = a; to = b; text = refl; fits = w.fits; needed = w.needs }

hex-clean : (n : ℕ) → n < 16 → (44 < hex_of n) × (hex_of n < 92)
unfolding hex_of
hex-clean n h = go (ltb n 10) refl
  where
    go : (t : Bool) → ltb n 10 ≡ t → (44 < hex_of n) × (hex_of n < 92)
    go true e = rw e (omega arith, omega (arith, ltb-true n 10 e))
    go false e = rw e (omega arith, omega arith)

pub clean-hex : (w n : ℕ) → Clean (print_hex w n)
unfolding print_hex
clean-hex zero n = tt
clean-hex (suc w) n = clean-append (print_hex w (n / 16)) (hex_of (n % 16) ∷ []) (clean-hex w (n / 16)) (hex-clean (n % 16) (omega arith), tt)

pub field-hex : (w : ℕ) (m : Maybe) → Clean (maybe_text (print_hex w) m)
field-hex w m = clean-if m.there (print_hex w m.value) (clean-hex w m.value)

pub field_plain : (m : Maybe) → Clean (maybe_text plain_text m)
field_plain m = clean-if m.there (plain_text m.value) (clean-plain m.value)

pub long-hex : (w : ℕ) (m : Maybe) → length (maybe_text (print_hex w) m) ≤ w
long-hex w m = length-if m.there (print_hex w m.value) w (omega (arith, length-hex w m.value))

pub long-rate : (there : Bool) (v : ℕ) → range_wrong 1200 115200 there v ≡ 0 → length (if_there there (plain_text v)) ≤ 6
long-rate there v e = ranged 1200 115200 there v 6 plain_text e (λ h. length-plain v (omega arith))

pub port-held : (m : Maybe) → port_wrong m.there m.value ≡ 0 → Held m
unfolding port_wrong
port-held m e q = let i = inside 0 0 m.value (rw q at e) in omega (arith, i.1)

pub no-port : port_wrong false 0 ≡ 0
unfolding port_wrong
no-port = zero-outside

-- Masks of satellites, in a command and in a reply, and of a port.
module _ (w hi : ℕ) (a : 1 ≤ w) (b : w ≤ 8) (c : hi < 16 ^ w) where
  pub satellites-back : (there : Bool) (v : ℕ) → range_wrong 0 hi there v ≡ 0
      → satellites_form w (if_there there (print_hex w v)) ≡ the_got there v
  unfolding satellites_form
  satellites-back =
      maybe_back (satellites_of w) (print_hex w) 0 hi (λ v l h. text-satellites w w v a (omega arith) b (omega arith))
      (λ v l h e. omega (arith, length-hex w v))

  pub whole_back : (v : ℕ) → outside 0 hi v ≡ 0 → whole_form w (print_hex w v) ≡ the_got true v
  unfolding whole_form
  whole_back v e = let i = inside 0 hi v e in rw (text-whole w v b (omega (arith, i.1)))

pub port-back : (there : Bool) (v : ℕ) → port_wrong there v ≡ 0 → port_mask_form (if_there there (print_hex 4 v)) ≡ the_got there v
unfolding port_wrong port_mask_form maybe_of
port-back true v e = rw (ne_eqb (length (print_hex 4 v)) 0 (λ q. omega (arith, length-hex 4 v)), text-port v (zero_one (is_port_mask v) e))
port-back false v e = let i = inside 0 0 v e in let q : 0 ≡ v = omega (arith, i.1) in ap (the_got false) q

-- Rates and codes.
wide-four : (v : ℕ) → 1200 ≤ v → 4 ≤ width_of v
unfolding width_of
wide-four v h = rw (le-ltb v 10 (omega arith), le-ltb v 100 (omega arith), le-ltb v 1000 (omega arith)) (four (ltb v 10000) (ltb v 100000))
  where
    four : (s t : Bool) → 4 ≤ cond s 4 (cond t 5 6)
    four true t = lit≤ tt
    four false true = lit≤ tt
    four false false = lit≤ tt

wide-three : (v : ℕ) → v ≤ 255 → width_of v ≤ 3
unfolding width_of
wide-three v h = rw (lt-ltb v 1000 (omega arith)) (three (ltb v 10) (ltb v 100))
  where
    three : (s t : Bool) → cond s 1 (cond t 2 3) ≤ 3
    three true t = lit≤ tt
    three false true = lit≤ tt
    three false false = lit≤ tt

rate-reads : (v : ℕ) → 1200 ≤ v → v ≤ 115200 → rate_of (plain_text v) ≡ Some v
rate-reads v l h =
    let w = width_is v (omega arith) in
    text-rate (plain_text v) v l h (plain-written 4 6 v (omega arith) (wide-four v l) w.most)

plain-filled : (v : ℕ) → v < 1000000 → length (plain_text v) ≡ 0 → ⊥
unfolding plain_text
plain-filled v h e = let w = width_is v h in omega (arith, w.some, length-fixed (width_of v) v)

pub rate-back : (there : Bool) (v : ℕ) → range_wrong 1200 115200 there v ≡ 0 → rate_form (if_there there (plain_text v)) ≡ the_got there v
unfolding rate_form
rate-back = maybe_back rate_of plain_text 1200 115200 rate-reads (λ v l h e. plain-filled v (omega arith) e)

pub rate-told : (v : ℕ) → outside 1200 115200 v ≡ 0 → rate_form (plain_text v) ≡ the_got true v
unfolding range_wrong
rate-told v e = rate-back true v e

pub code-back : (v : ℕ) → outside 0 255 v ≡ 0 → code_form (plain_text v) ≡ the_got true v
unfolding code_form
code-back v e =
    let i = inside 0 255 v e in
    let w = width_is v (omega (arith, i.1)) in
    rw (text-code (plain_text v) v i.1 (plain-written 1 3 v (omega (arith, i.1)) w.some (wide-three v i.1)))

-- Masks, rates, codes and a zone in one field.
module _ (w hi : ℕ) (most : 16 ^ w ≤ suc hi) where
  pub satellites-in : (f : List ℕ) → (satellites_form w f).wrong ≡ 0
      → range_wrong 0 hi (satellites_form w f).there (satellites_form w f).value ≡ 0
  unfolding satellites_form
  satellites-in = maybe-in (satellites_of w) (print_hex w) 0 hi (λ f v e. (omega arith, omega (arith, most, satellites-lt w f v e)))

  pub whole_in : (f : List ℕ) → (whole_form w f).wrong ≡ 0 → outside 0 hi (whole_form w f).value ≡ 0
  unfolding whole_form
  whole_in = told_in (hex_digits_of w w) (print_hex w) 0 hi (λ f v e. (omega arith, omega (arith, most, hex-lt w w f v e)))

pub port-in : (f : List ℕ) → (port_mask_form f).wrong ≡ 0 → port_wrong (port_mask_form f).there (port_mask_form f).value ≡ 0
unfolding port_mask_form maybe_of port_wrong
port-in f e = go (eqb (length f) 0) (port_mask_of f) refl e
  where
    go : (t : Bool) (o : Option ℕ) → port_mask_of f ≡ o → (pick t missing (got_of o)).wrong ≡ 0
        → port_wrong (pick t missing (got_of o)).there (pick t missing (got_of o)).value ≡ 0
    go true o q i = zero-outside
    go false None q i = let z : ⊥ = omega arith in absurd z
    go false (Some v) q i = rw (port-mask-is f v q)

pub rate-in : (f : List ℕ) → (rate_form f).wrong ≡ 0 → range_wrong 1200 115200 (rate_form f).there (rate_form f).value ≡ 0
unfolding rate_form
rate-in = maybe-in rate_of plain_text 1200 115200 rate-range

pub code_in : (f : List ℕ) → (code_form f).wrong ≡ 0 → outside 0 255 (code_form f).value ≡ 0
unfolding code_form
code_in = told_in code_of plain_text 0 255 (λ f v e. (omega arith, (code-text f v e).0))
