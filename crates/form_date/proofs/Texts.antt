-- The texts of dates and zones are clean, and no longer than their forms allow.
use Prim.Native.Nat.{◌%◌, ◌/◌, ◌≤◌, ℕ}
use mathlib.Core.List.{◌++◌, append_assoc}
use mathlib.Core.Path.{◌≡◌}
use native.Mathlib.Omega.{arith}
use lib.IntN.{nat_abs, ℤ}
use lib.ListN.{length, length-append}
use Rattle.digits.specs.Decimal.{print_fixed}
use Rattle.digits.specs.Sign.{sign_text}
use Rattle.digits.proofs.DecimalLaws.{length-fixed}
use Rattle.form.specs.Values.{if_there}
use Rattle.form.proofs.Clean.{Clean, clean-append, clean-fixed}
use Rattle.form.proofs.CleanTexts.{clean-if, clean-sign, length-if, length-sign}
use Rattle.form_date.specs.Dates.{six_text}
use Rattle.form_date.specs.Values.{day_field, hours_field, minutes_field, month_field, six_field, year_field}
use Rattle.form_date.specs.Zone.{four_text, hours_text, minutes_text}
use Rattle.form_date.specs.declared.Date.{Date}
use Rattle.form_date.specs.declared.Zone.{Zone}

-- A zone's one field is its two.
pub zone-text : (z : ℤ) → hours_text z ++ minutes_text z ≡ four_text z
zone-text z = append_assoc (sign_text z) (print_fixed 2 (nat_abs z / 60)) (print_fixed 2 (nat_abs z % 60))

pub clean-six : (d m y : ℕ) → Clean (six_text d m y)
clean-six d m y =
    clean-append (print_fixed 2 d) _ (clean-fixed 2 d) (clean-append (print_fixed 2 m) (print_fixed 2 (y % 100)) (clean-fixed 2 m)
    (clean-fixed 2 (y % 100)))

pub clean-hours : (z : ℤ) → Clean (hours_text z)
clean-hours z = clean-append (sign_text z) (print_fixed 2 (nat_abs z / 60)) (clean-sign z) (clean-fixed 2 (nat_abs z / 60))

pub clean-zone : (z : ℤ) → Clean (four_text z)
clean-zone z =
    clean-append (sign_text z) _ (clean-sign z)
    (clean-append (print_fixed 2 (nat_abs z / 60)) (print_fixed 2 (nat_abs z % 60)) (clean-fixed 2 (nat_abs z / 60))
    (clean-fixed 2 (nat_abs z % 60)))

pub length-six : (d m y : ℕ) → length (six_text d m y) ≤ 6
length-six d m y = simp (length-append, length-fixed) (omega arith)

pub length-hours : (z : ℤ) → length (hours_text z) ≤ 3
length-hours z = simp (length-append, length-fixed) (omega (arith, length-sign z))

pub length-zone : (z : ℤ) → length (four_text z) ≤ 5
length-zone z = simp (length-append, length-fixed) (omega (arith, length-sign z))

pub field-six : (d : Date) → Clean (six_field d)
field-six d = clean-if d.there (six_text d.day d.month d.year) (clean-six d.day d.month d.year)

pub field-day : (d : Date) → Clean (day_field d)
field-day d = clean-if d.there (print_fixed 2 d.day) (clean-fixed 2 d.day)

pub field-month : (d : Date) → Clean (month_field d)
field-month d = clean-if d.there (print_fixed 2 d.month) (clean-fixed 2 d.month)

pub field-year : (d : Date) → Clean (year_field d)
field-year d = clean-if d.there (print_fixed 4 d.year) (clean-fixed 4 d.year)

pub field-hours : (z : Zone) → Clean (hours_field z)
field-hours z = clean-if z.there (hours_text z.minutes) (clean-hours z.minutes)

pub field-minutes : (z : Zone) → Clean (minutes_field z)
field-minutes z = clean-if z.there (minutes_text z.minutes) (clean-fixed 2 (nat_abs z.minutes % 60))

pub field-zone : (z : Zone) → Clean (if_there z.there (four_text z.minutes))
field-zone z = clean-if z.there (four_text z.minutes) (clean-zone z.minutes)

pub long-day : (d : Date) → length (day_field d) ≤ 2
long-day d = length-if d.there (print_fixed 2 d.day) 2 (omega (arith, length-fixed 2 d.day))

pub long-month : (d : Date) → length (month_field d) ≤ 2
long-month d = length-if d.there (print_fixed 2 d.month) 2 (omega (arith, length-fixed 2 d.month))

pub long-year : (d : Date) → length (year_field d) ≤ 4
long-year d = length-if d.there (print_fixed 4 d.year) 4 (omega (arith, length-fixed 4 d.year))

pub long-hours : (z : Zone) → length (hours_field z) ≤ 3
long-hours z = length-if z.there (hours_text z.minutes) 3 (length-hours z.minutes)

pub long-minutes : (z : Zone) → length (minutes_field z) ≤ 2
long-minutes z = length-if z.there (minutes_text z.minutes) 2 (omega (arith, length-fixed 2 (nat_abs z.minutes % 60)))

pub long-zone : (z : Zone) → length (if_there z.there (four_text z.minutes)) ≤ 5
long-zone z = length-if z.there (four_text z.minutes) 5 (length-zone z.minutes)
