-- A number in its range, and digits of a fixed width, are read back as they were written.
use Prim.Native.Nat.{◌+◌, ◌<◌, ◌^◌, ◌≤◌, ℕ}
use mathlib.Core.Bool.{Bool, true}
use Rattle.std.specs.Prelude.{Some}
use mathlib.Core.Path.{◌≡◌}
use native.Mathlib.Omega.{arith}
use lib.Dec.{lit<}
use lib.IntN.{nat_abs, negsuc, pos, ℤ}
use lib.ListN.{length}
use Rattle.digits.specs.Decimal.{print_fixed}
use Rattle.digits.specs.Plain.{number_text}
use Rattle.digits.proofs.DecimalLaws.{length-fixed}
use Rattle.form.specs.Got.{got_of, maybe_int_of, maybe_of}
use Rattle.form.specs.Values.{if_there, outside, range_wrong, signed_wrong}
use Rattle.form.proofs.Values.{inside, maybe_back, maybe-int-back, the_got, the_got_int}
use Rattle.form_number.specs.Fixed.{fixed_of}
use Rattle.form_number.specs.Number.{below_of, height_of, number_of}
use Rattle.form_number.specs.Values.{height_text}
use Rattle.form_number.proofs.FixedLaws.{fixed_reads}
use Rattle.form_number.proofs.NumberSides.{below-reads, height-reads, not-empty, number-reads}
use Rattle.form_number.proofs.Written.{height-written, number-written}

-- Digits of a fixed width.
module _ (w lo hi : ℕ) (a : 1 ≤ w) (b : w ≤ 9) (c : hi < 10 ^ w) where
  fixed-one : (v : ℕ) → lo ≤ v → v ≤ hi → fixed_of w lo hi (print_fixed w v) ≡ Some v
  fixed-one v l h = fixed_reads w lo hi v b (omega arith) l h

  pub fixed_back : (there : Bool) (v : ℕ) → range_wrong lo hi there v ≡ 0
      → maybe_of (if_there there (print_fixed w v)) (fixed_of w lo hi (if_there there (print_fixed w v))) ≡ the_got there v
  fixed_back = maybe_back (fixed_of w lo hi) (print_fixed w) lo hi fixed-one (λ v l h e. omega (arith, length-fixed w v))

  pub exact-back : (v : ℕ) → outside lo hi v ≡ 0 → got_of (fixed_of w lo hi (print_fixed w v)) ≡ the_got true v
  exact-back v e = let i = inside lo hi v e in rw (fixed-one v i.0 i.1)

-- Numbers, below a limit too, and heights.
module _ (hi : ℕ) (most : hi < 1000000000) where
  number-filled : (v : ℕ) → 0 ≤ v → v ≤ hi → length (number_text v) ≡ 0 → ⊥
  number-filled v l h e = not-empty (number-written v (omega arith)) e

  pub below-back : (there : Bool) (v : ℕ) → range_wrong 0 hi there v ≡ 0
      → maybe_of (if_there there (number_text v)) (below_of (hi + 1) (if_there there (number_text v))) ≡ the_got there v
  below-back = maybe_back (below_of (hi + 1)) number_text 0 hi
      (λ v l h. below-reads (hi + 1) (number-written v (omega arith)) (omega arith)) number-filled

pub number-back : (there : Bool) (v : ℕ) → range_wrong 0 999999999 there v ≡ 0
    → maybe_of (if_there there (number_text v)) (number_of (if_there there (number_text v))) ≡ the_got there v
number-back =
    maybe_back number_of number_text 0 999999999 (λ v l h. number-reads (number-written v (omega arith))) (number-filled 999999999 (lit< tt))

height-filled : (z : ℤ) → nat_abs z ≤ 999999999 → length (height_text z) ≡ 0 → ⊥
height-filled (pos n) h e = not-empty (number-written n (omega arith)) e
height-filled (negsuc n) h e = omega arith

pub height-back : (there : Bool) (z : ℤ) → signed_wrong 999999999 there z ≡ 0
    → maybe_int_of (if_there there (height_text z)) (height_of (if_there there (height_text z))) ≡ the_got_int there z
height-back = maybe-int-back height_of height_text 999999999 (λ z h. height-reads (height-written z (omega arith))) height-filled
