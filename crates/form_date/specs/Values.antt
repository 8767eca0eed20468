-- Dates and zones as values of a record: whether they are in their range, and the texts of their fields.
use Rattle.std.specs.Prelude.{ℕ, ◌&&◌, Bool, cond, false, true, List, eqb, pos}
use Rattle.digits.specs.Decimal.{print_fixed}
use Rattle.form.specs.Values.{if_there, range_wrong}
use Rattle.form.specs.declared.got.GotInt.{GotInt}
use Rattle.form_date.specs.Calendar.{day_most, is_date, month_most}
use Rattle.form_date.specs.Dates.{six_text}
use Rattle.form_date.specs.Zone.{hours_text, minutes_text}
use Rattle.form_date.specs.declared.Date.{Date}
use Rattle.form_date.specs.declared.Zone.{Zone}
use Rattle.form_date.specs.declared.dates.GotDate.{GotDate}

abbrev pub dated_of : GotDate → Date
dated_of d = record { there = d.there; day = d.day; month = d.month; year = d.year }

abbrev pub zoned_of : GotInt → Zone
zoned_of g = record { there = g.there; minutes = g.value }

abbrev pub zoned_if : Bool → GotInt → Zone
zoned_if true g = zoned_of g
zoned_if false g = record { there = false; minutes = pos 0 }

-- A date in one field.
unfoldable pub six_wrong : Date → ℕ
six_wrong d =
    cond d.there
    (cond (is_date d.day d.month d.year) 0 1)
    (cond (eqb d.day 0 && (eqb d.month 0 && eqb d.year 0)) 0 1)

-- A date in three fields: day and month by themselves, then whether there is such a date.
unfoldable pub three_wrong : Date → ℕ
three_wrong d =
    cond (eqb (range_wrong 1 day_most d.there d.day) 0)
    (cond (eqb (range_wrong 1 month_most d.there d.month) 0) (cond (eqb (six_wrong d) 0) 0 3) 2)
    1

-- A date in one field, and in three.
abbrev pub six_field : Date → List ℕ
six_field d = if_there d.there (six_text d.day d.month d.year)

abbrev pub day_field : Date → List ℕ
day_field d = if_there d.there (print_fixed 2 d.day)

abbrev pub month_field : Date → List ℕ
month_field d = if_there d.there (print_fixed 2 d.month)

abbrev pub year_field : Date → List ℕ
year_field d = if_there d.there (print_fixed 4 d.year)

-- A zone in two fields.
abbrev pub hours_field : Zone → List ℕ
hours_field z = if_there z.there (hours_text z.minutes)

abbrev pub minutes_field : Zone → List ℕ
minutes_field z = if_there z.there (minutes_text z.minutes)
