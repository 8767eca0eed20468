-- GSA (17): M or A, one digit 1-3, twelve satellites (2 digits 01-99 or empty), PDOP, HDOP, VDOP. The first two are never empty.
use Rattle.std.specs.Prelude.{ℕ, [], ◌∷◌, List, eqb, get_or, replicate, ℤ}
use Rattle.digits.specs.Decimal.{print_fixed}
use Rattle.digits.specs.Pick.{pick}
use Rattle.address.specs.declared.Talker.{Talker}
use Rattle.frame.specs.Body.{standard_body}
use Rattle.form.specs.Kind.{fault_by, fields_for, read_by}
use Rattle.form.specs.Row.{◌▷◌, Form, one, Row}
use Rattle.form.specs.Values.{maybe_text, no_maybe}
use Rattle.form.specs.Wrong.{near_of}
use Rattle.form.specs.declared.Maybe.{Maybe}
use Rattle.form.specs.declared.got.Got.{Got}
use Rattle.form_letter.specs.Letters.{letter, selections}
use Rattle.form_number.specs.Fixed.{satellite_least, satellite_most}
use Rattle.form_number.specs.Forms.{exact, fixed, number}
use Rattle.form_number.specs.Values.{no_number, number_of}
use Rattle.form_number.specs.declared.Number.{Number}
use Rattle.kind_gsa.specs.declared.Gsa.{Gsa}
use Rattle.kind_gsa.specs.declared.Twelve.{Twelve}
use Rattle.numbers.specs.Layout.{Layout, ◌then◌, several, shaped, standard, standard_numbers, whole}
use Rattle.numbers.specs.Told.{Answer, gives, refuses}
use Rattle.form.specs.Numbers.{maybe_layout}
use Rattle.form_number.specs.Numbers.{number_layout}

-- A satellite, or none.
abbrev pub satellite : Form Got Maybe
satellite = fixed 2 satellite_least satellite_most

-- Four of them, and twelve.
abbrev pub Four : Type 0 → Type 0
Four A = A × (A × (A × A))

abbrev pub four_row : Row (Four Got) (Four Maybe)
four_row = one satellite ▷ one satellite ▷ one satellite ▷ one satellite

abbrev pub Twelves : Type 0 → Type 0
Twelves A = Four A × (Four A × Four A)

abbrev pub twelve_row : Row (Twelves Got) (Twelves Maybe)
twelve_row = four_row ▷ four_row ▷ four_row

abbrev pub Readings : Type 0
Readings = Got × (Got × (Twelves Got × (Got × (Got × Got))))

abbrev pub Values : Type 0
Values = ℕ × (ℕ × (Twelves Maybe × (Number × (Number × Number))))

unfoldable pub gsa_row : Row Readings Values
gsa_row = one (letter selections) ▷ one (exact 1 1 3) ▷ twelve_row ▷ one number ▷ one number ▷ one number

-- An array of twelve is the list of its places.
abbrev pub four_then : Four Maybe → List Maybe → List Maybe
four_then v rest = v.0 ∷ v.1.0 ∷ v.1.1.0 ∷ v.1.1.1 ∷ rest

abbrev pub listed : Twelves Maybe → List Maybe
listed v = four_then v.0 (four_then v.1.0 (four_then v.1.1 []))

abbrev pub satellite_in : List Maybe → ℕ → Maybe
satellite_in l k = get_or l k no_maybe

abbrev pub twelve_in : List Maybe → Twelves Maybe
twelve_in l = (
  (satellite_in l 0, (satellite_in l 1, (satellite_in l 2, satellite_in l 3))),
  (
    (satellite_in l 4, (satellite_in l 5, (satellite_in l 6, satellite_in l 7))),
    (satellite_in l 8, (satellite_in l 9, (satellite_in l 10, satellite_in l 11))),
  ),
)

-- The record of the values, and back.
abbrev pub gsa_made : Values → Gsa
gsa_made v =
    record {
      selection = v.0;
      fix = v.1.0;
      satellites = listed v.1.1.0;
      pdop = v.1.1.1.0;
      hdop = v.1.1.1.1.0;
      vdop = v.1.1.1.1.1;
    }

abbrev pub gsa_values : Gsa → Values
gsa_values r = (r.selection, (r.fix, (twelve_in r.satellites, (r.pdop, (r.hdop, r.vdop)))))

-- The record as numbers, as docs/LAYOUT.md lays them out, in the order of its fields; and back.
unfoldable pub gsa_layout : Layout Gsa
gsa_layout =
    shaped
    (λ v. record {
      selection = v.0;
      fix = v.1.0;
      satellites = v.1.1.0;
      pdop = v.1.1.1.0;
      hdop = v.1.1.1.1.0;
      vdop = v.1.1.1.1.1;
    })
    (λ r. (r.selection, (r.fix, (r.satellites, (r.pdop, (r.hdop, r.vdop))))))
    (whole then whole then several 12 no_maybe maybe_layout then number_layout then number_layout then number_layout)

abbrev pub gsa_numbers : Talker → Gsa → List ℤ
gsa_numbers = standard_numbers gsa_layout

abbrev pub gsa_at : List ℤ → Gsa
gsa_at n = ((standard gsa_layout).at n 0).1

-- A record without values.
abbrev pub blank_gsa : Gsa
blank_gsa = record { selection = 0; fix = 0; satellites = replicate 12 no_maybe; pdop = no_number; hdop = no_number; vdop = no_number }

abbrev pub gsa_told : List ℤ → Talker → ℕ → (ℕ → List ℕ) → Answer
gsa_told out t = read_by (refuses out) gsa_row (λ v. gives out 3 (gsa_numbers t (gsa_made v)))

-- The satellites, and the first wrong field from theirs on; rest is the first after them.
unfoldable pub twelve_of : Twelves Got → ℕ → Twelve
twelve_of g rest = record { wrong = twelve_row.wrong g 2 rest; satellites = listed (twelve_row.value g) }

-- What the last fields, and those before them, come to.
unfoldable pub gsa_from : List ℤ → Talker → Got → Got → Twelve → Got → Got → Got → Answer
gsa_from out t selection fix active pdop hdop vdop =
    pick (eqb (near_of 0 selection.wrong (near_of 1 fix.wrong active.wrong)) 0)
    (gives out 3 (gsa_numbers t
    (record {
      selection = selection.value;
      fix = fix.value;
      satellites = active.satellites;
      pdop = number_of pdop;
      hdop = number_of hdop;
      vdop = number_of vdop;
    })))
    (refuses out 5 (near_of 0 selection.wrong (near_of 1 fix.wrong active.wrong)))

-- The text of a satellite's field.
abbrev pub satellite_text : Maybe → List ℕ
satellite_text = maybe_text (print_fixed 2)

-- The first value outside its range, by the number of its field, or 0; the fields; the body.
unfoldable pub gsa_wrong : Gsa → ℕ
gsa_wrong r = fault_by gsa_row (gsa_values r)

unfoldable pub gsa_fields : Gsa → List (List ℕ)
gsa_fields r = fields_for gsa_row (gsa_values r)

abbrev pub gsa_body : Talker → Gsa → List ℕ
gsa_body t r = standard_body t "GSA" (gsa_fields r)
