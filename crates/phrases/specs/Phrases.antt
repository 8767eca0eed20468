-- The values of a record in words, by the letter of their form.
use Rattle.std.specs.Prelude.{◌%◌, ◌/◌, ℕ, [], ◌++◌, ◌∷◌, List, Bool, cond, eqb, nat_abs, pos, ℤ}
use Prim.Native.Char.{Char, code}
use Rattle.std.specs.Int.Signed.{lt_z}
use Rattle.digits.specs.Ascii.{ascii}
use Rattle.digits.specs.Decimal.{print_fixed}
use Rattle.digits.specs.Plain.{number_text}
use Rattle.numbers.specs.Layout.{signed, whole}
use Rattle.text.specs.Numbers.{decimal_text}

-- The one text or the other.
abbrev pub either : Bool → List ℕ → List ℕ → List ℕ
either b s t = cond b s t

abbrev pub is_minus : ℤ → Bool
is_minus z = lt_z z (pos 0)

-- `1 hour`, `13 hours`: a number and the word behind it, for one and for all others.
unfoldable pub counted : ℕ → List ℕ → List ℕ → List ℕ
counted n one many = decimal_text n ++ either (eqb n 1) one many

-- `07:51:40.00`: a time in hundredths of a second.
unfoldable pub clock_words : ℕ → List ℕ
clock_words v =
    print_fixed 2 (v / 360000)
    ++ (58 ∷ print_fixed 2 (v / 6000 % 60)) ++ (58 ∷ print_fixed 2 (v / 100 % 60)) ++ (46 ∷ print_fixed 2 (v % 100))

-- `2026-11-15`
unfoldable pub date_words : ℕ → ℕ → ℕ → List ℕ
date_words day month year = print_fixed 4 year ++ (45 ∷ print_fixed 2 month) ++ (45 ∷ print_fixed 2 day)

-- `minus 30 minutes`, `13 hours 59 minutes`: a zone in minutes; hours are said only where there are any.
unfoldable pub hours_words : ℕ → List ℕ
hours_words n = cond (eqb n 0) [] (counted n (ascii " hour ") (ascii " hours "))

unfoldable pub zone_words : ℤ → List ℕ
zone_words z =
    either (is_minus z) (ascii "minus ") [] ++ hours_words (nat_abs z / 60) ++ counted (nat_abs z % 60) (ascii " minute") (ascii " minutes")

-- `55 degrees 50.6111`: an angle in ten-thousandths of a minute.
unfoldable pub angle_words : ℕ → List ℕ
angle_words v =
    counted (v / 600000) (ascii " degree ") (ascii " degrees ") ++ decimal_text (v / 10000 % 60) ++ (46 ∷ print_fixed 4 (v % 10000))

-- `55 degrees 50.6111 minutes north, 37 degrees 32.2534 minutes east`; zero is north and east.
unfoldable pub place_words : ℤ → ℤ → List ℕ
place_words lat lon =
    angle_words (nat_abs lat) ++ either (is_minus lat) (ascii " minutes south, ") (ascii " minutes north, ")
    ++ angle_words (nat_abs lon) ++ either (is_minus lon) (ascii " minutes west") (ascii " minutes east")

-- `-12.5`: a height in thousandths.
unfoldable pub height_words : ℤ → List ℕ
height_words z = either (is_minus z) (ascii "-") [] ++ number_text (nat_abs z)

-- `5.2 degrees west`: a variation in thousandths of a degree.
unfoldable pub variation_words : ℤ → List ℕ
variation_words z = number_text (nat_abs z) ++ either (is_minus z) (ascii " degrees west") (ascii " degrees east")

abbrev pub is : Char → ℕ → Bool
is letter f = eqb f (code letter)

-- Signed values: a height, a variation and a zone.
unfoldable pub signed_text : ℕ → ℤ → List ℕ
signed_text f z = cond (is "h" f) (height_words z) (cond (is "v" f) (variation_words z) (cond (is "z" f) (zone_words z) []))

-- The value that stands first in the numbers: a whole number, a number in thousandths, a time, a date of day, month and year, a position of
-- latitude and longitude, or a signed value; nothing for a letter that is no form.
unfoldable pub measure_text : ℕ → List ℤ → List ℕ
measure_text f ns =
    cond (is "n" f) (decimal_text (whole.at ns 0))
    (cond (is "k" f) (number_text (whole.at ns 0))
    (cond (is "t" f) (clock_words (whole.at ns 0))
    (cond (is "d" f) (date_words (whole.at ns 0) (whole.at ns 1) (whole.at ns 2))
    (cond (is "p" f) (place_words (signed.at ns 0) (signed.at ns 1)) (signed_text f (signed.at ns 0))))))
