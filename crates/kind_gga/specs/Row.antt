-- GGA (14): time, position (4), quality one digit 0-8 never empty, satellites 2 digits or empty, HDOP, altitude, M, geoid, M, age, station
-- 0000-1023 or empty.
use Rattle.std.specs.Prelude.{ℕ, List, ℤ}
use Rattle.address.specs.declared.Talker.{Talker}
use Rattle.frame.specs.Body.{standard_body}
use Rattle.form.specs.Kind.{answer_by, fault_by, fields_for, read_by}
use Rattle.form.specs.Row.{◌▷◌, Form, made, one, Row}
use Rattle.form.specs.declared.Maybe.{Maybe}
use Rattle.form.specs.declared.got.Got.{Got}
use Rattle.form.specs.declared.got.GotInt.{GotInt}
use Rattle.form_number.specs.Forms.{exact, fixed, metres, number}
use Rattle.form_number.specs.declared.Number.{Number}
use Rattle.form_number.specs.declared.Signed.{Signed}
use Rattle.form_time.specs.Time.{time}
use Rattle.form_position.specs.Forms.{place}
use Rattle.form_position.specs.declared.Place.{Place}
use Rattle.form_position.specs.declared.Position.{Position}
use Rattle.kind_gga.specs.declared.Gga.{Gga}
use Rattle.numbers.specs.Layout.{Layout, standard, standard_numbers}
use Rattle.numbers.specs.Told.{Answer, gives, refuses}

-- The last station.
abbrev pub station_most : ℕ
station_most = 1023

-- A station, 0000 to 1023; may be empty.
abbrev pub station : Form Got Maybe
station = fixed 4 0 station_most

abbrev pub Readings : Type 0
Readings = Got × (Position × (Got × (Got × (Got × ((GotInt × ℕ) × ((GotInt × ℕ) × (Got × Got)))))))

abbrev pub Values : Type 0
Values = Maybe × (Place × (ℕ × (Maybe × (Number × (Signed × (Signed × (Number × Maybe)))))))

abbrev pub gga_parts : Row Readings Values
gga_parts = one time ▷ one place ▷ one (exact 1 0 8) ▷ one (fixed 2 0 99) ▷ one number ▷ metres ▷ metres ▷ one number ▷ one station

unfoldable pub gga_row : Row Readings Gga
gga_row =
    made
    (λ v. record {
      time = v.0;
      place = v.1.0;
      quality = v.1.1.0;
      satellites = v.1.1.1.0;
      hdop = v.1.1.1.1.0;
      altitude = v.1.1.1.1.1.0;
      geoid = v.1.1.1.1.1.1.0;
      age = v.1.1.1.1.1.1.1.0;
      station = v.1.1.1.1.1.1.1.1;
    })
    (λ r. (r.time, (r.place, (r.quality, (r.satellites, (r.hdop, (r.altitude, (r.geoid, (r.age, r.station)))))))))
    gga_parts

-- The record as numbers, as docs/LAYOUT.md lays them out, in the order of its fields; and back.
unfoldable pub gga_layout : Layout Gga
gga_layout = gga_row.layout

abbrev pub gga_numbers : Talker → Gga → List ℤ
gga_numbers = standard_numbers gga_layout

abbrev pub gga_at : List ℤ → Gga
gga_at n = ((standard gga_layout).at n 0).1

-- What the contracts cite.
abbrev pub gga_from : List ℤ → Talker → Got → Position → Got → Got → Got → GotInt → ℕ → GotInt → ℕ → Got → Got → Answer
gga_from out t time place quality satellites hdop altitude m10 geoid m12 age station =
    answer_by (refuses out) gga_row (λ r. gives out 1 (gga_numbers t r))
    (time, (place, (quality, (satellites, (hdop, ((altitude, m10), ((geoid, m12), (age, station))))))))

abbrev pub gga_told : List ℤ → Talker → ℕ → (ℕ → List ℕ) → Answer
gga_told out t = read_by (refuses out) gga_row (λ r. gives out 1 (gga_numbers t r))

-- The first value outside its range, by the number of its field, or 0; the fields; the body.
abbrev pub gga_wrong : Gga → ℕ
gga_wrong = fault_by gga_row

abbrev pub gga_fields : Gga → List (List ℕ)
gga_fields = fields_for gga_row

abbrev pub gga_body : Talker → Gga → List ℕ
gga_body t r = standard_body t "GGA" (gga_fields r)
