-- PIRTR (2): datum 0-4 or empty; zone. Empty datum: a question; the zone is valid or empty in a line, missing in the record.
use Rattle.std.specs.Prelude.{ℕ, Bool, List, ℤ}
use Rattle.frame.specs.Body.{maker_body}
use Rattle.form.specs.Kind.{answer_by, fault_by, fields_for, read_by}
use Rattle.form.specs.Row.{depending, made, one, Row}
use Rattle.form.specs.declared.Maybe.{Maybe}
use Rattle.form.specs.declared.got.Got.{Got}
use Rattle.form.specs.declared.got.GotInt.{GotInt}
use Rattle.form_number.specs.Forms.{fixed}
use Rattle.form_date.specs.Forms.{hhmm}
use Rattle.form_date.specs.declared.Zone.{Zone}
use Rattle.kind_pir_datum.specs.declared.command.DatumAsked.{DatumAsked}
use Rattle.numbers.specs.Layout.{Layout, maker_numbers}
use Rattle.form_date.specs.Numbers.{zone_layout}
use Rattle.numbers.specs.Told.{Answer, gives, refuses}

-- The last datum.
abbrev pub datum_most : ℕ
datum_most = 4

abbrev pub Readings : Type 0
Readings = Got × GotInt

abbrev pub Values : Type 0
Values = Maybe × Zone

-- The zone, which stands where the datum does.
abbrev pub zone : Bool → Row GotInt Zone
zone key = one (hhmm key)

abbrev pub pirtr_parts : Row Readings Values
pirtr_parts = depending 1 6 zone_layout (λ g. g.there) (λ m. m.there) (one (fixed 1 0 datum_most)) zone

unfoldable pub pirtr_row : Row Readings DatumAsked
pirtr_row =
    made
    (λ v. record { datum = v.0; zone = v.1 })
    (λ r. (r.datum, r.zone))
    pirtr_parts

-- The record as numbers, as docs/LAYOUT.md lays them out, in the order of its fields; and back.
unfoldable pub pirtr_layout : Layout DatumAsked
pirtr_layout = pirtr_row.layout

abbrev pub pirtr_numbers : DatumAsked → List ℤ
pirtr_numbers = maker_numbers pirtr_layout

abbrev pub pirtr_at : List ℤ → DatumAsked
pirtr_at n = pirtr_layout.at n 0

-- What the contracts cite.
abbrev pub pirtr_from : List ℤ → Got → GotInt → Answer
pirtr_from out datum zone =
    answer_by (refuses out) pirtr_row (λ r. gives out 9 (pirtr_numbers r)) (datum, zone)

abbrev pub pirtr_told : List ℤ → ℕ → (ℕ → List ℕ) → Answer
pirtr_told out = read_by (refuses out) pirtr_row (λ r. gives out 9 (pirtr_numbers r))

-- The first value outside its range, by the number of its field, or 0; the fields; the body.
abbrev pub pirtr_wrong : DatumAsked → ℕ
pirtr_wrong = fault_by pirtr_row

abbrev pub pirtr_fields : DatumAsked → List (List ℕ)
pirtr_fields = fields_for pirtr_row

abbrev pub pirtr_body : DatumAsked → List ℕ
pirtr_body r = maker_body "PIRTR" (pirtr_fields r)
