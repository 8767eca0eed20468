-- Positions: latitude and longitude with their letters, at most 90 and 180 degrees; and the magnetic variation.
use Rattle.std.specs.Prelude.{◌%◌, ◌*◌, ◌+◌, ◌/◌, ℕ, ◌&&◌, ◌||◌, Bool, cond, false, not, true, ◌++◌, ◌∷◌, List, eqb, leb, ltb, pos, drop, get_or, length, take}
use Rattle.std.specs.Prelude.{None, Option, Some}
use Rattle.digits.specs.Bind.{bind}
use Rattle.digits.specs.Ascii.{ascii}
use Rattle.digits.specs.Decimal.{digits_of, print_fixed}
use Rattle.digits.specs.Pick.{pick}
use Rattle.digits.specs.Same.{same}
use Rattle.digits.specs.Sign.{signed}
use Rattle.form.specs.Got.{got_int_of, missing_int}
use Rattle.form.specs.declared.got.GotInt.{GotInt}
use Rattle.form_number.specs.Number.{below_of, half_circle}
use Rattle.form_position.specs.declared.Position.{Position}

-- 90 and 180 degrees, in ten-thousandths of a minute.
abbrev pub latitude_most : ℕ
latitude_most = 54000000

abbrev pub longitude_most : ℕ
longitude_most = 108000000

-- Degrees and minutes joined, in ten-thousandths of a minute: minutes are below 60, and all is at most the limit.
unfoldable pub joined_of : ℕ → Option ℕ → Option ℕ → Option ℕ → Option ℕ
joined_of limit od om op =
    bind od λ d. bind om λ m. bind op λ p.
    cond (ltb m 60 && leb (d * 600000 + m * 10000 + p) limit) (Some (d * 600000 + m * 10000 + p)) None

-- w digits of degrees, two of minutes, a point and four more.
unfoldable pub angle_of : ℕ → ℕ → List ℕ → Option ℕ
angle_of w limit f =
    cond (eqb (length f) (w + 7) && eqb (get_or f (w + 2) 0) 46)
    (joined_of limit (digits_of w w (take w f)) (digits_of 2 2 (take 2 (drop w f))) (digits_of 4 4 (drop (w + 3) f)))
    None

-- A value in ten-thousandths of a minute, written so.
abbrev pub angle_text : ℕ → ℕ → List ℕ
angle_text w v = print_fixed w (v / 600000) ++ (print_fixed 2 (v / 10000 % 60) ++ (46 ∷ print_fixed 4 (v % 10000)))

-- At most 90 degrees, and at most 180.
unfoldable pub latitude_of : List ℕ → Option ℕ
latitude_of f = angle_of 2 latitude_most f

unfoldable pub longitude_of : List ℕ → Option ℕ
longitude_of f = angle_of 3 longitude_most f

-- The wrong one of two fields, of which the first is there or empty.
abbrev pub wrong_int : ℕ → Bool → GotInt
wrong_int n there = record { wrong = n; there = there; value = pos 0 }

-- A value and one of its two letters, of which the second negates it.
unfoldable pub lettered_of : List ℕ → List ℕ → List ℕ → Option ℕ → GotInt
lettered_of plus minus u None = wrong_int 1 true
lettered_of plus minus u (Some v) =
    pick (same u plus || same u minus) (got_int_of (Some (signed (same u minus) v))) (wrong_int 2 true)

-- A value with its letter, or both empty.
unfoldable pub sided_of : List ℕ → List ℕ → List ℕ → List ℕ → Option ℕ → GotInt
sided_of plus minus f u o =
    pick (eqb (length f) 0) (pick (eqb (length u) 0) missing_int (wrong_int 2 false)) (lettered_of plus minus u o)

abbrev pub refused_at : ℕ → Position
refused_at n = record { wrong = n; there = false; lat = pos 0; lon = pos 0 }

-- Both or none; where one is there without the other, the third field is wrong.
unfoldable pub both_of : GotInt → GotInt → Position
both_of a o =
    pick (eqb a.wrong 0)
    (pick ((a.there && not o.there) || ((not a.there && o.there) || eqb o.wrong 1)) (refused_at 3)
    (pick (eqb o.wrong 0) (record { wrong = 0; there = a.there; lat = a.value; lon = o.value }) (refused_at 4)))
    (refused_at a.wrong)

-- Latitude, N or S, longitude, E or W: all four or none.
unfoldable pub position_form : List ℕ → List ℕ → List ℕ → List ℕ → Position
position_form lat ns lon ew =
    both_of (sided_of (ascii "N") (ascii "S") lat ns (latitude_of lat)) (sided_of (ascii "E") (ascii "W") lon ew (longitude_of lon))

-- A number below 180 with E or W; without the number, the letter may be empty too.
unfoldable pub variation_form : List ℕ → List ℕ → GotInt
variation_form f u =
    pick (eqb (length f) 0)
    (pick (eqb (length u) 0 || (same u (ascii "E") || same u (ascii "W"))) missing_int (wrong_int 2 false))
    (lettered_of (ascii "E") (ascii "W") u (below_of half_circle f))
