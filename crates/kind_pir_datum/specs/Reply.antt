-- PIRTA (2): the request's fields, all filled.
use Rattle.std.specs.Prelude.{ℕ, List, ℤ}
use Rattle.frame.specs.Body.{maker_body}
use Rattle.form.specs.Kind.{answer_by, fault_by, fields_for, read_by}
use Rattle.form.specs.Row.{◌▷◌, made, one, Row}
use Rattle.form.specs.declared.got.Got.{Got}
use Rattle.form.specs.declared.got.GotInt.{GotInt}
use Rattle.form_number.specs.Forms.{exact}
use Rattle.form_date.specs.Forms.{filled_zone}
use Rattle.kind_pir_datum.specs.declared.reply.DatumTold.{DatumTold}
use Rattle.kind_pir_datum.specs.Command.{datum_most}
use Rattle.numbers.specs.Layout.{Layout, maker_numbers}
use Rattle.numbers.specs.Told.{Answer, gives, refuses}

abbrev pub Readings : Type 0
Readings = Got × GotInt

abbrev pub Values : Type 0
Values = ℕ × ℤ

abbrev pub pirta_parts : Row Readings Values
pirta_parts = one (exact 1 0 datum_most) ▷ one filled_zone

unfoldable pub pirta_row : Row Readings DatumTold
pirta_row =
    made
    (λ v. record { datum = v.0; zone = v.1 })
    (λ r. (r.datum, r.zone))
    pirta_parts

-- The record as numbers, as docs/LAYOUT.md lays them out, in the order of its fields; and back.
unfoldable pub pirta_layout : Layout DatumTold
pirta_layout = pirta_row.layout

abbrev pub pirta_numbers : DatumTold → List ℤ
pirta_numbers = maker_numbers pirta_layout

abbrev pub pirta_at : List ℤ → DatumTold
pirta_at n = pirta_layout.at n 0

-- What the contracts cite.
abbrev pub pirta_from : List ℤ → Got → GotInt → Answer
pirta_from out datum zone =
    answer_by (refuses out) pirta_row (λ r. gives out 13 (pirta_numbers r)) (datum, zone)

abbrev pub pirta_told : List ℤ → ℕ → (ℕ → List ℕ) → Answer
pirta_told out = read_by (refuses out) pirta_row (λ r. gives out 13 (pirta_numbers r))

-- The first value outside its range, by the number of its field, or 0; the fields; the body.
abbrev pub pirta_wrong : DatumTold → ℕ
pirta_wrong = fault_by pirta_row

abbrev pub pirta_fields : DatumTold → List (List ℕ)
pirta_fields = fields_for pirta_row

abbrev pub pirta_body : DatumTold → List ℕ
pirta_body r = maker_body "PIRTA" (pirta_fields r)
