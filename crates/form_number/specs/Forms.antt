-- The forms of numbers: what is read, what is in range, what is written, and at most how many bytes.
use Rattle.std.specs.Prelude.{◌+◌, ◌-◌, ℕ}
use Rattle.digits.specs.Decimal.{print_fixed}
use Rattle.form.specs.Forms.{single, single_int}
use Rattle.form.specs.Row.{Form, measured, one, Row}
use Rattle.form.specs.Units.{unit}
use Rattle.form.specs.Values.{kept_of, maybe_text, outside, range_wrong, signed_wrong}
use Rattle.form.specs.declared.Maybe.{Maybe}
use Rattle.form.specs.declared.got.Got.{Got}
use Rattle.form.specs.declared.got.GotInt.{GotInt}
use Rattle.form_number.specs.Fixed.{exact_form, fixed_form}
use Rattle.form_number.specs.Number.{below_form, full_circle, height_form, number_form, number_most}
use Rattle.form_number.specs.Values.{height_field, kmh_field, kmh_of, knots_field, knots_of, number_field, number_of, signed_of}
use Rattle.form_number.specs.declared.Kmh.{Kmh}
use Rattle.form_number.specs.declared.Knots.{Knots}
use Rattle.form_number.specs.declared.Number.{Number}
use Rattle.form_number.specs.declared.Signed.{Signed}
use Rattle.numbers.specs.Layout.{whole}
use Rattle.form.specs.Numbers.{maybe_layout}
use Rattle.form_number.specs.Numbers.{kmh_layout, knots_layout, number_layout, signed_layout}

-- w digits from lo to hi, that may be empty, and that may not.
abbrev pub fixed : ℕ → ℕ → ℕ → Form Got Maybe
fixed w lo hi =
    single (w + 1) maybe_layout (fixed_form w lo hi) (λ g. kept_of g) (λ m. range_wrong lo hi m.there m.value) (maybe_text (print_fixed w))

abbrev pub exact : ℕ → ℕ → ℕ → Form Got ℕ
exact w lo hi = single (w + 1) whole (exact_form w lo hi) (λ g. g.value) (λ v. outside lo hi v) (λ v. print_fixed w v)

-- A number, a speed in knots and in km/h; each may be empty.
abbrev pub number : Form Got Number
number = single 11 number_layout number_form (λ g. number_of g) (λ n. range_wrong 0 number_most n.there n.value) (λ n. number_field n)

abbrev pub knots : Form Got Knots
knots = single 11 knots_layout number_form (λ g. knots_of g) (λ n. range_wrong 0 number_most n.there n.value) (λ n. knots_field n)

abbrev pub kmh : Form Got Kmh
kmh = single 11 kmh_layout number_form (λ g. kmh_of g) (λ n. range_wrong 0 number_most n.there n.value) (λ n. kmh_field n)

-- A number that may have a minus; may be empty.
abbrev pub height : Form GotInt Signed
height = single_int 12 signed_layout height_form (λ g. signed_of g) (λ z. signed_wrong number_most z.there z.value) (λ z. height_field z)

-- A course, below 360; may be empty.
abbrev pub course : Form Got Number
course =
    single 8 number_layout (below_form full_circle) (λ g. number_of g) (λ n. range_wrong 0 (full_circle - 1) n.there n.value)
    (λ n. number_field n)

-- The same with the letters of their units.
abbrev pub metres : Row (GotInt × ℕ) Signed
metres = measured (unit "M") (λ g. g.there) (λ z. z.there) (one height)

abbrev pub true_course : Row (Got × ℕ) Number
true_course = measured (unit "T") (λ g. g.there) (λ n. n.there) (one course)

abbrev pub magnetic_course : Row (Got × ℕ) Number
magnetic_course = measured (unit "M") (λ g. g.there) (λ n. n.there) (one course)

abbrev pub knots_unit : Row (Got × ℕ) Knots
knots_unit = measured (unit "N") (λ g. g.there) (λ n. n.there) (one knots)

abbrev pub kmh_unit : Row (Got × ℕ) Kmh
kmh_unit = measured (unit "K") (λ g. g.there) (λ n. n.there) (one kmh)
