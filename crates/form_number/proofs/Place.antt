-- The place of a 5 in a number: it may be empty, or its least value is a text that it reads.
use Prim.Native.Nat.{◌<◌, ◌^◌, ◌≤◌, ℕ}
use mathlib.Core.Bool.{true}
use mathlib.Core.Path.{◌≡◌}
use native.Mathlib.Omega.{arith}
use lib.Dec.{lit<}
use Rattle.digits.specs.Decimal.{print_fixed}
use Rattle.form.specs.Row.{one}
use Rattle.form.specs.Units.{unit}
use Rattle.form.specs.Values.{range_wrong}
use Rattle.form.proofs.Clean.{clean-fixed}
use Rattle.form.proofs.PlaceForms.{prefix-maybe, prefix-maybe-int, prefix-told}
use Rattle.form.proofs.PlaceLaws.{Prefix, prefix-one, PrefixForm}
use Rattle.form.proofs.PlaceNeeded.{Told}
use Rattle.form.proofs.PlaceRows.{prefix-measured}
use Rattle.form.proofs.Ranged.{in-outside}
use Rattle.form_number.specs.Fixed.{fixed_of}
use Rattle.form_number.specs.Forms.{course, exact, fixed, height, kmh, kmh_unit, knots, knots_unit, magnetic_course, metres, number}
use Rattle.form_number.specs.Forms.{true_course}
use Rattle.form_number.specs.Number.{below_of, full_circle, height_of, number_of}
use Rattle.form_number.proofs.Back.{fixed_back}
use Rattle.form_number.proofs.FixedLaws.{fixed_reads}

pub prefix-number : PrefixForm number
prefix-number = prefix-maybe number_of

pub prefix-knots : PrefixForm knots
prefix-knots = prefix-maybe number_of

pub prefix-kmh : PrefixForm kmh
prefix-kmh = prefix-maybe number_of

pub prefix-height : PrefixForm height
prefix-height = prefix-maybe-int height_of

pub prefix-course : PrefixForm course
prefix-course = prefix-maybe (below_of full_circle)

pub prefix-fixed : (w lo hi : ℕ) → PrefixForm (fixed w lo hi)
prefix-fixed w lo hi = prefix-maybe (fixed_of w lo hi)

-- Digits that may not be missing: the least number.
pub prefix-exact : (w lo hi : ℕ) → w ≤ 9 → hi < 10 ^ w → lo ≤ hi → PrefixForm (exact w lo hi)
prefix-exact w lo hi nine fit h =
    prefix-told (fixed_of w lo hi) (print_fixed w lo) (clean-fixed w lo) (fixed_reads w lo hi lo nine (omega arith) (omega arith) h)

-- With their units.
pub prefix-metres : Prefix metres
prefix-metres = prefix-measured (unit "M") (λ g. g.there) (λ z. z.there) (one height) (lit< tt) (lit< tt) (prefix-one prefix-height)

pub prefix-true_course : Prefix true_course
prefix-true_course = prefix-measured (unit "T") (λ g. g.there) (λ n. n.there) (one course) (lit< tt) (lit< tt) (prefix-one prefix-course)

pub prefix-magnetic_course : Prefix magnetic_course
prefix-magnetic_course =
    prefix-measured (unit "M") (λ g. g.there) (λ n. n.there) (one course) (lit< tt) (lit< tt) (prefix-one prefix-course)

pub prefix-knots_unit : Prefix knots_unit
prefix-knots_unit = prefix-measured (unit "N") (λ g. g.there) (λ n. n.there) (one knots) (lit< tt) (lit< tt) (prefix-one prefix-knots)

pub prefix-kmh_unit : Prefix kmh_unit
prefix-kmh_unit = prefix-measured (unit "K") (λ g. g.there) (λ n. n.there) (one kmh) (lit< tt) (lit< tt) (prefix-one prefix-kmh)

fixed-range : (lo hi : ℕ) → lo ≤ hi → range_wrong lo hi true lo ≡ 0
unfolding range_wrong
fixed-range lo hi h = in-outside lo hi lo (omega arith) h

pub told_fixed : (w lo hi : ℕ) → 1 ≤ w → w ≤ 9 → hi < 10 ^ w → lo ≤ hi → Told (fixed w lo hi)
told_fixed w lo hi a b c h =
    record { text = print_fixed w lo; clean = clean-fixed w lo; value = lo; good = fixed_back w lo hi a b c true lo (fixed-range lo hi h) }
