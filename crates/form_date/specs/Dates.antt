-- The date's fields: RMC `ddmmyy`, yy 80 to 99 meaning 19yy, may be empty; ZDA day 01-31, month 01-12, four-digit year, all or none.
use Rattle.std.specs.Prelude.{◌%◌, ◌+◌, ℕ, cond, false, true, ◌++◌, List, eqb, ltb, length}
use Rattle.std.specs.Prelude.{None, Option, option_map, Some}
use Rattle.digits.specs.Decimal.{digits_of, print_fixed}
use Rattle.digits.specs.Pairs.{pair_at}
use Rattle.digits.specs.Pick.{pick}
use Rattle.form.specs.Got.{within_of}
use Rattle.form_date.specs.Calendar.{day_most, is_date, month_most}
use Rattle.form_date.specs.declared.dates.GotDate.{GotDate}

-- A date that is missing, or wrong in field n.
abbrev pub no_date : ℕ → GotDate
no_date n = record { wrong = n; there = false; day = 0; month = 0; year = 0 }

abbrev pub the_date : ℕ → ℕ → ℕ → GotDate
the_date d m y = record { wrong = 0; there = true; day = d; month = m; year = y }

-- The date of a day, a month and a year that stand in the fields a, b and c. The first bad one is wrong; the last, where there is no such
-- date.
unfoldable pub date_at : ℕ → ℕ → ℕ → Option ℕ → Option ℕ → Option ℕ → GotDate
date_at a b c None om oy = no_date a
date_at a b c (Some d) None oy = no_date b
date_at a b c (Some d) (Some m) None = no_date c
date_at a b c (Some d) (Some m) (Some y) = pick (is_date d m y) (the_date d m y) (no_date c)

-- The year that two digits mean.
unfoldable pub full_year : ℕ → ℕ
full_year yy = cond (ltb yy 80) (2000 + yy) (1900 + yy)

-- One field of six digits, or an empty one.
unfoldable pub date_six : List ℕ → GotDate
date_six f =
    pick (eqb (length f) 0) (no_date 0)
    (pick (eqb (length f) 6) (date_at 1 1 1 (pair_at 0 f) (pair_at 2 f) (option_map full_year (pair_at 4 f)))
    (no_date 1))

-- Where the day is empty, the first of the others that is not is wrong.
unfoldable pub date_three : List ℕ → List ℕ → List ℕ → GotDate
date_three d m y =
    pick (eqb (length d) 0) (no_date (cond (eqb (length m) 0) (cond (eqb (length y) 0) 0 3) 2))
    (date_at 1 2 3 (within_of 1 day_most (digits_of 2 2 d)) (within_of 1 month_most (digits_of 2 2 m)) (digits_of 4 4 y))

-- The six digits of a date.
abbrev pub six_text : ℕ → ℕ → ℕ → List ℕ
six_text d m y = print_fixed 2 d ++ (print_fixed 2 m ++ print_fixed 2 (y % 100))
