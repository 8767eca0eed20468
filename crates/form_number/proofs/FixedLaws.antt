-- Digits of a fixed width: the range of what was read, and both sides: what reads is what is printed.
use Prim.Native.Nat.{◌<◌, ◌^◌, ◌≤◌, ℕ}
use mathlib.Core.List.{List}
use Rattle.std.specs.Prelude.{Some}
use mathlib.Core.Path.{◌≡◌}
use Rattle.digits.specs.Decimal.{digits_of, print_fixed}
use Rattle.digits.proofs.Bounds.{digits_lt}
use Rattle.digits.proofs.DecimalLaws.{fixed-rt}
use Rattle.digits.proofs.DigitSides.{fixed-are}
use Rattle.form.proofs.RangeLaws.{within-range, within-yes}
use Rattle.form_number.specs.Fixed.{fixed_of}

-- A value read in a fixed width has as many digits, and is in the range.
pub fixed-range : (w lo hi : ℕ) (f : List ℕ) (v : ℕ) → fixed_of w lo hi f ≡ Some v → (v < 10 ^ w) × (lo ≤ v) × (v ≤ hi)
unfolding fixed_of
fixed-range w lo hi f v e =
    let r = within-range lo hi (digits_of w w f) v e in
    (digits_lt w w f v r.0, r.1, r.2)

-- What reads is the value printed in the width, in the range.
pub fixed-is : (w lo hi : ℕ) (f : List ℕ) (v : ℕ) → fixed_of w lo hi f ≡ Some v → (f ≡ print_fixed w v) × (v < 10 ^ w) × (lo ≤ v) × (v ≤ hi)
unfolding fixed_of
fixed-is w lo hi f v e =
    let r = within-range lo hi (digits_of w w f) v e in
    let d = fixed-are w f v r.0 in
    (d.0, d.1, r.1, r.2)

-- And each such value reads.
pub fixed_reads : (w lo hi v : ℕ) → w ≤ 9 → v < 10 ^ w → lo ≤ v → v ≤ hi → fixed_of w lo hi (print_fixed w v) ≡ Some v
unfolding fixed_of
fixed_reads w lo hi v h k l u = rw (fixed-rt w v h k) (within-yes lo hi v l u)
