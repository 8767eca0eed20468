-- Time `hhmmss.ss`, hours 00 to 23, minutes and seconds 00 to 59, two fraction digits; may be empty. Held in hundredths of a second.
use Rattle.std.specs.Prelude.{◌%◌, ◌*◌, ◌+◌, ◌/◌, ℕ, ◌&&◌, Bool, cond, ◌++◌, ◌∷◌, List, eqb, leb, get_or, length}
use Rattle.std.specs.Prelude.{None, Option, Some}
use Rattle.digits.specs.Bind.{bind}
use Rattle.digits.specs.Decimal.{print_fixed}
use Rattle.digits.specs.Pairs.{pair_at}
use Rattle.form.specs.Forms.{single}
use Rattle.form.specs.Got.{maybe_of}
use Rattle.form.specs.Row.{Form}
use Rattle.form.specs.Values.{kept_of, maybe_text, range_wrong}
use Rattle.form.specs.declared.Maybe.{Maybe}
use Rattle.form.specs.declared.got.Got.{Got}
use Rattle.form.specs.Numbers.{maybe_layout}

-- The last hundredth of a second of a day.
abbrev pub last_hundredth : ℕ
last_hundredth = 8639999

-- Whether a day has the second s of minute m of hour h.
unfoldable pub is_time : ℕ → ℕ → ℕ → Bool
is_time h m s = leb h 23 && (leb m 59 && leb s 59)

-- The parts of a time in hundredths of a second.
unfoldable pub clock_of : Option ℕ → Option ℕ → Option ℕ → Option ℕ → Option ℕ
clock_of hours minutes seconds hundredths =
    bind hours λ h. bind minutes λ m. bind seconds λ s. bind hundredths λ c.
    cond (is_time h m s) (Some (h * 360000 + m * 6000 + s * 100 + c)) None

-- Nine bytes, the seventh of them the point.
unfoldable pub time_of : List ℕ → Option ℕ
time_of f =
    cond (eqb (length f) 9 && eqb (get_or f 6 0) 46)
    (clock_of (pair_at 0 f) (pair_at 2 f) (pair_at 4 f) (pair_at 7 f))
    None

-- A time in hundredths of a second, written so.
abbrev pub clock_text : ℕ → List ℕ
clock_text v = print_fixed 2 (v / 360000) ++ (print_fixed 2 (v / 6000 % 60) ++ (print_fixed 2 (v / 100 % 60) ++ (46 ∷ print_fixed 2 (v % 100))))

-- Time of day; may be empty.
abbrev pub time_form : List ℕ → Got
time_form f = maybe_of f (time_of f)

-- A time of day; may be empty.
abbrev pub time : Form Got Maybe
time = single 10 maybe_layout time_form (λ g. kept_of g) (λ m. range_wrong 0 last_hundredth m.there m.value) (maybe_text clock_text)
