-- The forms of numbers are lawful.
use Prim.Native.Nat.{◌-◌, ◌<◌, ◌^◌, ◌≤◌, suc, ℕ}
use mathlib.Core.Bool.{Bool, false, true}
use mathlib.Core.Path.{◌≡◌, refl}
use native.Mathlib.Omega.{arith}
use lib.Dec.{lit<}
use lib.IntN.{negsuc, pos, ℤ}
use lib.ListN.{length}
use Rattle.digits.proofs.DecimalLaws.{length-fixed}
use Rattle.form.specs.Row.{one}
use Rattle.form.specs.Units.{unit}
use Rattle.form.specs.Values.{if_there, signed_wrong}
use Rattle.form.proofs.Clean.{clean-fixed}
use Rattle.form.proofs.CleanTexts.{length-number}
use Rattle.form.proofs.FormLaws.{lawful-single, short-single}
use Rattle.form.proofs.Laws.{LawfulForm, ShortForm, Tight, tight-measured, tight-one}
use Rattle.form.proofs.Signed.{signed-in}
use Rattle.form_number.specs.Fixed.{exact_form, fixed_form}
use Rattle.form_number.specs.Forms.{course, exact, fixed, height, kmh, kmh_unit, knots, knots_unit, magnetic_course, metres, number}
use Rattle.form_number.specs.Forms.{true_course}
use Rattle.form_number.specs.Number.{below_form, full_circle, height_form, number_form, number_most}
use Rattle.form_number.specs.Values.{height_text}
use Rattle.form_number.proofs.Back.{below-back, exact-back, fixed_back, height-back, number-back}
use Rattle.form_number.proofs.Ranged.{below_in, below-short, exact-in, exact-short, fixed_in, fixed-short, height-in, height-short}
use Rattle.form_number.proofs.Ranged.{number_in, number_short}
use Rattle.form_number.proofs.Texts.{field_fixed, field-height, field-kmh, field-knots, field-number, long-course, long-fixed}
use Rattle.form_number.proofs.Texts.{long-number}

-- Digits of a fixed width.
module _ (w lo hi : ℕ) (some : 1 ≤ w) (nine : w ≤ 9) (fit : hi < 10 ^ w) where
  pub lawful-fixed : LawfulForm (fixed w lo hi)
  lawful-fixed =
      lawful-single (fixed_form w lo hi) (λ m. fixed_back w lo hi some nine fit m.there m.value) (λ m e. refl) (λ m e. refl)
      (fixed_in w lo hi) (λ m e. field_fixed w m) (λ m e. omega (arith, long-fixed w m))

  pub lawful-exact : LawfulForm (exact w lo hi)
  lawful-exact =
      lawful-single (exact_form w lo hi) (exact-back w lo hi some nine fit) (λ v e. refl) (λ v e. refl) (exact-in w lo hi)
      (λ v e. clean-fixed w v) (λ v e. omega (arith, length-fixed w v))

pub short-fixed : (w lo hi : ℕ) → ShortForm (fixed w lo hi)
short-fixed w lo hi = short-single (fixed_form w lo hi) (fixed-short w lo hi)

pub short-exact : (w lo hi : ℕ) → ShortForm (exact w lo hi)
short-exact w lo hi = short-single (exact_form w lo hi) (exact-short w lo hi)

-- Numbers and speeds.
pub lawful-number : LawfulForm number
lawful-number =
    lawful-single number_form (λ n. number-back n.there n.value) (λ n e. refl) (λ n e. refl) number_in (λ n e. field-number n)
    (λ n e. omega (arith, long-number n.there n.value e))

pub short-number : ShortForm number
short-number = short-single number_form number_short

pub lawful-knots : LawfulForm knots
lawful-knots =
    lawful-single number_form (λ n. number-back n.there n.value) (λ n e. refl) (λ n e. refl) number_in (λ n e. field-knots n)
    (λ n e. omega (arith, long-number n.there n.value e))

pub short-knots : ShortForm knots
short-knots = short-single number_form number_short

pub lawful-kmh : LawfulForm kmh
lawful-kmh =
    lawful-single number_form (λ n. number-back n.there n.value) (λ n e. refl) (λ n e. refl) number_in (λ n e. field-kmh n)
    (λ n e. omega (arith, long-number n.there n.value e))

pub short-kmh : ShortForm kmh
short-kmh = short-single number_form number_short

long-height : (there : Bool) (z : ℤ) → signed_wrong number_most there z ≡ 0 → length (if_there there (height_text z)) ≤ 11
long-height false z e = omega arith
long-height true (pos n) e = let i = signed-in number_most (pos n) e in omega (arith, length-number n (omega (arith, i)))
long-height true (negsuc n) e = let i = signed-in number_most (negsuc n) e in omega (arith, length-number (suc n) (omega (arith, i)))

pub lawful-height : LawfulForm height
lawful-height =
    lawful-single height_form (λ z. height-back z.there z.value) (λ z e. refl) (λ z e. refl) height-in (λ z e. field-height z)
    (λ z e. omega (arith, long-height z.there z.value e))

pub short-height : ShortForm height
short-height = short-single height_form height-short

pub lawful-course : LawfulForm course
lawful-course =
    lawful-single (below_form full_circle) (λ n. below-back (full_circle - 1) (lit< tt) n.there n.value) (λ n e. refl) (λ n e. refl)
    (below_in (full_circle - 1)) (λ n e. field-number n) (λ n e. omega (arith, long-course n.there n.value e))

pub short-course : ShortForm course
short-course = short-single (below_form full_circle) (below-short (full_circle - 1))

-- With their units.
pub tight-metres : Tight metres
tight-metres =
    tight-measured (unit "M") (λ g. g.there) (λ z. z.there) (one height) (lit< tt) (lit< tt) (λ g. refl)
    (tight-one lawful-height short-height)

pub tight-true_course : Tight true_course
tight-true_course =
    tight-measured (unit "T") (λ g. g.there) (λ n. n.there) (one course) (lit< tt) (lit< tt) (λ g. refl)
    (tight-one lawful-course short-course)

pub tight-magnetic_course : Tight magnetic_course
tight-magnetic_course =
    tight-measured (unit "M") (λ g. g.there) (λ n. n.there) (one course) (lit< tt) (lit< tt) (λ g. refl)
    (tight-one lawful-course short-course)

pub tight-knots_unit : Tight knots_unit
tight-knots_unit =
    tight-measured (unit "N") (λ g. g.there) (λ n. n.there) (one knots) (lit< tt) (lit< tt) (λ g. refl)
    (tight-one lawful-knots short-knots)

pub tight-kmh_unit : Tight kmh_unit
tight-kmh_unit =
    tight-measured (unit "K") (λ g. g.there) (λ n. n.there) (one kmh) (lit< tt) (lit< tt) (λ g. refl) (tight-one lawful-kmh short-kmh)
