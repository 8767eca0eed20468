-- Zone: hours 00 to 13 with optional minus (no plus), minutes 00 to 59; held as signed minutes, the sign of the hours covering both. Minus
-- with zero minutes in all is refused. Both or none.
use Rattle.std.specs.Prelude.{◌%◌, ◌*◌, ◌+◌, ◌/◌, ℕ, Bool, cond, false, true, ◌++◌, List, eqb, nat_abs, neg_ℤ, pos, ℤ, drop, get_or, length}
use Rattle.std.specs.Prelude.{None, Option, Some}
use Rattle.digits.specs.Bind.{bind}
use Rattle.digits.specs.Decimal.{digits_of, print_fixed}
use Rattle.digits.specs.Pairs.{pair_at}
use Rattle.digits.specs.Pick.{pick}
use Rattle.digits.specs.Sign.{sign_text}
use Rattle.form.specs.Got.{maybe_int_of, missing_int, within_of}
use Rattle.form.specs.declared.got.GotInt.{GotInt}

-- The last hour and the last minute, and both in minutes.
abbrev pub hours_most : ℕ
hours_most = 13

abbrev pub minutes_most : ℕ
minutes_most = 59

abbrev pub zone_most : ℕ
zone_most = hours_most * 60 + minutes_most

-- Whether a field begins with a minus.
unfoldable pub minus : List ℕ → Bool
minus f = eqb (get_or f 0 0) 45

-- The field without its minus.
unfoldable pub bare_of : List ℕ → List ℕ
bare_of f = cond (minus f) (drop 1 f) f

-- n minutes with their sign; there is no minus zero.
unfoldable pub zone_of : Bool → ℕ → Option ℤ
zone_of negative n = cond negative (cond (eqb n 0) None (Some (neg_ℤ (pos n)))) (Some (pos n))

-- A zone that is wrong in field n.
abbrev pub wrong_zone : ℕ → GotInt
wrong_zone n = record { wrong = n; there = true; value = pos 0 }

-- A zone that was read, or is wrong in field n.
abbrev pub got_zone_at : ℕ → Option ℤ → GotInt
got_zone_at n (Some z) = record { wrong = 0; there = true; value = z }
got_zone_at n None = wrong_zone n

-- Wrong hours are wrong at 1, all else at n.
unfoldable pub zone_at : ℕ → Bool → Option ℕ → Option ℕ → GotInt
zone_at n negative None minutes = wrong_zone 1
zone_at n negative (Some h) minutes = got_zone_at n (bind minutes λ m. zone_of negative (h * 60 + m))

-- Two fields: where the hours are empty, the minutes are too, or they are wrong.
unfoldable pub zone_two : List ℕ → List ℕ → GotInt
zone_two h m =
    pick (eqb (length h) 0) (pick (eqb (length m) 0) missing_int (record { wrong = 2; there = false; value = pos 0 }))
    (zone_at 2 (minus h) (within_of 0 hours_most (digits_of 2 2 (bare_of h))) (within_of 0 minutes_most (digits_of 2 2 m)))

-- One field `hhmm`, with minus if negative.
unfoldable pub zone_four : List ℕ → Option ℤ
zone_four f =
    cond (eqb (length (bare_of f)) 4)
    (bind (within_of 0 hours_most (pair_at 0 (bare_of f))) λ h. bind (within_of 0 minutes_most (pair_at 2 (bare_of f))) λ m. zone_of (minus f)
    (h * 60 + m))
    None

-- The hours with their sign, and the minutes, of a zone in signed minutes; and both as one field.
abbrev pub hours_text : ℤ → List ℕ
hours_text z = sign_text z ++ print_fixed 2 (nat_abs z / 60)

abbrev pub minutes_text : ℤ → List ℕ
minutes_text z = print_fixed 2 (nat_abs z % 60)

abbrev pub four_text : ℤ → List ℕ
four_text z = sign_text z ++ (print_fixed 2 (nat_abs z / 60) ++ print_fixed 2 (nat_abs z % 60))

-- A zone of four digits; may be empty.
abbrev pub zone_four_form : List ℕ → GotInt
zone_four_form f = maybe_int_of f (zone_four f)
