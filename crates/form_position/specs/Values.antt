-- A position as a value of a record, its range, and the texts of its four fields; the texts of a variation.
use Rattle.std.specs.Prelude.{ℕ, cond, List, eqb, nat_abs, negsuc, pos, ℤ}
use Rattle.digits.specs.Ascii.{ascii}
use Rattle.digits.specs.Plain.{number_text}
use Rattle.form.specs.Values.{if_there, signed_wrong}
use Rattle.form_number.specs.declared.Signed.{Signed}
use Rattle.form_position.specs.Angle.{angle_text, latitude_most, longitude_most}
use Rattle.form_position.specs.declared.Place.{Place}
use Rattle.form_position.specs.declared.Position.{Position}

abbrev pub placed_of : Position → Place
placed_of p = record { there = p.there; lat = p.lat; lon = p.lon }

-- A position at most 90 and 180 degrees; latitude stands in the first field, longitude in the third.
unfoldable pub place_wrong : Place → ℕ
place_wrong p =
    cond (eqb (signed_wrong latitude_most p.there p.lat) 0)
    (cond (eqb (signed_wrong longitude_most p.there p.lon) 0) 0 3)
    1

-- The letter of a value's side; zero is on the first.
abbrev pub side_text : List ℕ → List ℕ → ℤ → List ℕ
side_text plus minus (pos n) = plus
side_text plus minus (negsuc n) = minus

-- A position: latitude, N or S, longitude, E or W.
abbrev pub lat_field : Place → List ℕ
lat_field p = if_there p.there (angle_text 2 (nat_abs p.lat))

abbrev pub ns_field : Place → List ℕ
ns_field p = if_there p.there (side_text (ascii "N") (ascii "S") p.lat)

abbrev pub lon_field : Place → List ℕ
lon_field p = if_there p.there (angle_text 3 (nat_abs p.lon))

abbrev pub ew_field : Place → List ℕ
ew_field p = if_there p.there (side_text (ascii "E") (ascii "W") p.lon)

-- The variation: a number, E or W.
abbrev pub variation_field : Signed → List ℕ
variation_field n = if_there n.there (number_text (nat_abs n.value))

abbrev pub variation_side : Signed → List ℕ
variation_side n = if_there n.there (side_text (ascii "E") (ascii "W") n.value)
