-- The Gregorian calendar.
use Rattle.std.specs.Prelude.{◌%◌, ℕ, ◌&&◌, ◌||◌, Bool, cond, not, eqb, leb}

-- The last day of the longest months, and the last month.
abbrev pub day_most : ℕ
day_most = 31

abbrev pub month_most : ℕ
month_most = 12

-- Every fourth year, but of the full hundreds only every fourth.
unfoldable pub leap_year : ℕ → Bool
leap_year y = (eqb (y % 4) 0 && not (eqb (y % 100) 0)) || eqb (y % 400) 0

-- February has 28 days, or 29 in a leap year; April, June, September and November 30; the others 31. What is no month has none.
unfoldable pub days_in : ℕ → ℕ → ℕ
days_in month year =
    cond (leb 1 month && leb month month_most)
    (cond (eqb month 2) (cond (leap_year year) 29 28)
    (cond (eqb month 4 || (eqb month 6 || (eqb month 9 || eqb month 11))) 30 day_most))
    0

-- A real date, 1980 to 2079.
unfoldable pub is_date : ℕ → ℕ → ℕ → Bool
is_date day month year = (leb 1980 year && leb year 2079) && (leb 1 day && leb day (days_in month year))
