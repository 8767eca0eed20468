-- The field forms, each from both sides: what reads has this shape and value, and this shape reads. The arguments stand in the files named.
use Prim.Native.Nat.{◌-◌, ◌<◌, ◌^◌, ◌≤◌, ℕ}
use mathlib.Core.Path.{◌≡◌}
use mathlib.Core.List.{[], ◌∷◌, List}
use mathlib.Core.Bool.{Bool, false, true}
use Rattle.std.specs.Prelude.{Some}
use mathlib.Core.Logic.{◌⊎◌}
use lib.IntN.{nat_abs, pos, ℤ}
use lib.ListN.{length}
use Rattle.digits.specs.Ascii.{ascii}
use Rattle.digits.specs.Decimal.{print_fixed}
use Rattle.form.specs.Got.{got_int_of}
use Rattle.form_number.specs.Fixed.{fixed_of}
use Rattle.form_letter.specs.Letters.{is_in, letter_of}
use Rattle.form.specs.Units.{unit_wrong}
use Rattle.form_number.specs.Number.{below_of, height_of, number_of}
use Rattle.form_position.specs.Angle.{position_form, variation_form}
use Rattle.form_number.proofs.FixedLaws as FixedLaws
use Rattle.form_letter.proofs.LetterLaws as LetterLaws
use Rattle.form.proofs.UnitLaws as UnitLaws
use Rattle.form_number.proofs.NumberSides as NumberSides
use Rattle.form_position.proofs.PositionSides as PositionSides
use Rattle.form_time.specs.Time.{time_of}
use Rattle.form_date.specs.Calendar.{is_date}
use Rattle.form_date.specs.Dates.{date_six, date_three, six_text, the_date}
use Rattle.form_date.specs.Zone.{four_text, hours_text, minutes_text, zone_four, zone_two}
use Rattle.form_time.proofs.TimeLaws as TimeLaws
use Rattle.form_date.proofs.CalendarLaws as CalendarLaws
use Rattle.form_date.proofs.ZoneLaws as ZoneLaws
use Rattle.form_mask.specs.Masks.{is_port_mask, port_mask_of, print_hex, satellites_of}
use Rattle.form_mask.specs.Rates.{code_of, rate_of}
use Rattle.form_mask.proofs.MaskText as MaskText
use Rattle.form_mask.proofs.RateLaws as RateLaws

-- w digits in a range: counts, stations, GSV's digits, quality.
pub fixed-is : (w lo hi : ℕ) (f : List ℕ) (v : ℕ) → fixed_of w lo hi f ≡ Some v → (f ≡ print_fixed w v) × (v < 10 ^ w) × (lo ≤ v) × (v ≤ hi)
fixed-is = FixedLaws.fixed-is

pub fixed_reads : (w lo hi v : ℕ) → w ≤ 9 → v < 10 ^ w → lo ≤ v → v ≤ hi → fixed_of w lo hi (print_fixed w v) ≡ Some v
fixed_reads = FixedLaws.fixed_reads

-- One letter of a set: mode, status.
pub letter-is : (set f : List ℕ) (v : ℕ) → letter_of set f ≡ Some v → (f ≡ v ∷ []) × (is_in v set ≡ true)
letter-is = LetterLaws.letter-is

pub letter-reads : (set : List ℕ) (v : ℕ) → is_in v set ≡ true → letter_of set (v ∷ []) ≡ Some v
letter-reads = LetterLaws.letter-reads

-- A unit's letter, which may be empty without its value.
pub unit-is : (u : List ℕ) (there : Bool) (b : ℕ) → unit_wrong u there b ≡ 0 → (u ≡ b ∷ []) ⊎ ((u ≡ []) × (there ≡ false))
unit-is = UnitLaws.unit-is

pub unit-letter : (there : Bool) (b : ℕ) → unit_wrong (b ∷ []) there b ≡ 0
unit-letter = UnitLaws.unit-letter

pub unit-empty : (b : ℕ) → unit_wrong [] false b ≡ 0
unit-empty = UnitLaws.unit-empty

-- A number in thousandths: 1 to 6 digits, and 1 to 3 behind a point.
pub number_is : (f : List ℕ) (v : ℕ) → number_of f ≡ Some v → NumberSides.Written f v
number_is = NumberSides.number_is

pub number-reads : {f : List ℕ} {v : ℕ} → NumberSides.Written f v → number_of f ≡ Some v
number-reads = NumberSides.number-reads

-- One below a limit: courses.
pub below-is : (limit : ℕ) (f : List ℕ) (v : ℕ) → below_of limit f ≡ Some v → NumberSides.Written f v × (v < limit)
below-is = NumberSides.below-is

pub below-reads : {f : List ℕ} {v : ℕ} (limit : ℕ) → NumberSides.Written f v → v < limit → below_of limit f ≡ Some v
below-reads = NumberSides.below-reads

-- One with or without a minus: altitude, geoid.
pub height-is : (f : List ℕ) (z : ℤ) → height_of f ≡ Some z → NumberSides.WrittenHeight f z
height-is = NumberSides.height-is

pub height-reads : {f : List ℕ} {z : ℤ} → NumberSides.WrittenHeight f z → height_of f ≡ Some z
height-reads = NumberSides.height-reads

-- A position of four fields, in signed ten-thousandths of a minute; four empty fields are a missing one.
pub position-is : (lat ns lon ew : List ℕ) → (position_form lat ns lon ew).wrong ≡ 0 → (position_form lat ns lon ew).there ≡ true
    → PositionSides.Latitude lat ns (position_form lat ns lon ew).lat × PositionSides.Longitude lon ew (position_form lat ns lon ew).lon
position-is = PositionSides.position-is

pub position-reads : {lat ns lon ew : List ℕ} {a o : ℤ} → PositionSides.Latitude lat ns a → PositionSides.Longitude lon ew o
    → position_form lat ns lon ew ≡ record { wrong = 0; there = true; lat = a; lon = o }
position-reads = PositionSides.position-reads

pub position-empty : position_form [] [] [] [] ≡ record { wrong = 0; there = false; lat = pos 0; lon = pos 0 }
position-empty = PositionSides.position-empty

-- The magnetic variation: a number below 180 and its letter.
pub variation-is : (f u : List ℕ) → (variation_form f u).wrong ≡ 0 → (variation_form f u).there ≡ true
    → PositionSides.Varied f u (variation_form f u).value
variation-is = PositionSides.variation-is

pub variation-reads : {f u : List ℕ} {z : ℤ} → PositionSides.Varied f u z → variation_form f u ≡ got_int_of (Some z)
variation-reads = PositionSides.variation-reads

-- A time of day in hundredths of a second.
pub time-is : (f : List ℕ) (v : ℕ) → time_of f ≡ Some v → TimeLaws.TimeText f v
time-is = TimeLaws.time-text

pub time-reads : (f : List ℕ) (v : ℕ) → TimeLaws.TimeText f v → time_of f ≡ Some v
time-reads = TimeLaws.text-time

-- A date of the calendar from 1980 to 2079, in RMC's six digits and in ZDA's three fields.
pub six-is : (f : List ℕ) (d m y : ℕ) → date_six f ≡ the_date d m y
    → (is_date d m y ≡ true) × (f ≡ six_text d m y)
six-is = CalendarLaws.six-text

pub six-reads : (d m y : ℕ) → is_date d m y ≡ true → date_six (six_text d m y) ≡ the_date d m y
six-reads = CalendarLaws.text-six

pub three-is : (a b c : List ℕ) (d m y : ℕ) → date_three a b c ≡ the_date d m y
    → (is_date d m y ≡ true) × ((a ≡ print_fixed 2 d) × ((b ≡ print_fixed 2 m) × (c ≡ print_fixed 4 y)))
three-is = CalendarLaws.three-text

pub three-reads : (d m y : ℕ) → is_date d m y ≡ true → date_three (print_fixed 2 d) (print_fixed 2 m) (print_fixed 4 y) ≡ the_date d m y
three-reads = CalendarLaws.text-three

-- A zone in signed minutes, up to 839, in ZDA's two fields and in PIRTR's one; the sign of -00 hours stays.
pub zone-two-is : (h m : List ℕ) (z : ℤ) → zone_two h m ≡ ZoneLaws.the_int z
    → (nat_abs z ≤ 839) × ((h ≡ hours_text z) × (m ≡ minutes_text z))
zone-two-is = ZoneLaws.two-text

pub zone-two-reads : (z : ℤ) → nat_abs z ≤ 839
    → zone_two (hours_text z) (minutes_text z) ≡ ZoneLaws.the_int z
zone-two-reads = ZoneLaws.text-two

pub zone-four-is : (f : List ℕ) (z : ℤ) → zone_four f ≡ Some z
    → (nat_abs z ≤ 839) × (f ≡ four_text z)
zone-four-is = ZoneLaws.four-text

pub zone-four-reads : (z : ℤ) → nat_abs z ≤ 839
    → zone_four (four_text z) ≡ Some z
zone-four-reads = ZoneLaws.text-four

-- A port's mask: four capital hex digits, bits 7 and 12 to 15 zero.
pub port-is : (f : List ℕ) (v : ℕ) → port_mask_of f ≡ Some v → (is_port_mask v ≡ true) × (f ≡ print_hex 4 v)
port-is = MaskText.port-text

pub port-reads : (v : ℕ) → is_port_mask v ≡ true → port_mask_of (print_hex 4 v) ≡ Some v
port-reads = MaskText.text-port

-- A mask of satellites: up to w capital hex digits, or `-1`, which is all ones.
pub satellites-is : (w : ℕ) (f : List ℕ) (v : ℕ) → satellites_of w f ≡ Some v
    → ((f ≡ ascii "-1") × ((w ≤ 8) × (v ≡ 16 ^ w - 1))) ⊎ ((1 ≤ length f) × ((length f ≤ w) × (f ≡ print_hex (length f) v)))
satellites-is = MaskText.satellites-text

pub satellites-read : (w k v : ℕ) → 1 ≤ k → k ≤ w → k ≤ 8 → v < 16 ^ k → satellites_of w (print_hex k v) ≡ Some v
satellites-read = MaskText.text-satellites

pub satellites-all : (w : ℕ) → w ≤ 8 → satellites_of w (ascii "-1") ≡ Some (16 ^ w - 1)
satellites-all = MaskText.text-all

-- A rate from 1200 to 115200 and an error code to 255, both without leading zeros.
pub rate-is : (f : List ℕ) (v : ℕ) → rate_of f ≡ Some v → ((1200 ≤ v) × (v ≤ 115200)) × RateLaws.PlainText 4 6 f v
rate-is = RateLaws.rate-text

pub rate-reads : (f : List ℕ) (v : ℕ) → 1200 ≤ v → v ≤ 115200 → RateLaws.PlainText 4 6 f v → rate_of f ≡ Some v
rate-reads = RateLaws.text-rate

pub code_is : (f : List ℕ) (v : ℕ) → code_of f ≡ Some v → (v ≤ 255) × RateLaws.PlainText 1 3 f v
code_is = RateLaws.code-text

pub code_reads : (f : List ℕ) (v : ℕ) → v ≤ 255 → RateLaws.PlainText 1 3 f v → code_of f ≡ Some v
code_reads = RateLaws.text-code
