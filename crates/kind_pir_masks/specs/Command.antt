-- PIRSR (3): GPS mask 1 to 8 and GLONASS mask 1 to 6 digits, or `-1`, or empty; third field empty.
use Rattle.std.specs.Prelude.{ℕ, List, ℤ}
use Rattle.frame.specs.Body.{maker_body}
use Rattle.form.specs.Forms.{empty_field}
use Rattle.form.specs.Kind.{answer_by, fault_by, fields_for, read_by}
use Rattle.form.specs.Row.{◌▷◌, made, one, Row}
use Rattle.form.specs.declared.Maybe.{Maybe}
use Rattle.form.specs.declared.got.Got.{Got}
use Rattle.form_mask.specs.Forms.{satellite_mask}
use Rattle.kind_pir_masks.specs.declared.command.MasksAsked.{MasksAsked}
use Rattle.numbers.specs.Layout.{Layout, maker_numbers}
use Rattle.numbers.specs.Told.{Answer, gives, refuses}

-- The masks with all satellites.
abbrev pub gps_most : ℕ
gps_most = 4294967295

abbrev pub glonass_most : ℕ
glonass_most = 16777215

abbrev pub Readings : Type 0
Readings = Got × (Got × ℕ)

abbrev pub Values : Type 0
Values = Maybe × (Maybe × Unit {0})

abbrev pub pirsr_parts : Row Readings Values
pirsr_parts = one (satellite_mask 8 gps_most) ▷ one (satellite_mask 6 glonass_most) ▷ one empty_field

unfoldable pub pirsr_row : Row Readings MasksAsked
pirsr_row =
    made
    (λ v. record { gps = v.0; glonass = v.1.0 })
    (λ r. (r.gps, (r.glonass, tt)))
    pirsr_parts

-- The record as numbers, as docs/LAYOUT.md lays them out, in the order of its fields; and back.
unfoldable pub pirsr_layout : Layout MasksAsked
pirsr_layout = pirsr_row.layout

abbrev pub pirsr_numbers : MasksAsked → List ℤ
pirsr_numbers = maker_numbers pirsr_layout

abbrev pub pirsr_at : List ℤ → MasksAsked
pirsr_at n = pirsr_layout.at n 0

-- What the contracts cite.
abbrev pub pirsr_from : List ℤ → Got → Got → ℕ → Answer
pirsr_from out gps glonass third =
    answer_by (refuses out) pirsr_row (λ r. gives out 10 (pirsr_numbers r)) (gps, (glonass, third))

abbrev pub pirsr_told : List ℤ → ℕ → (ℕ → List ℕ) → Answer
pirsr_told out = read_by (refuses out) pirsr_row (λ r. gives out 10 (pirsr_numbers r))

-- The first value outside its range, by the number of its field, or 0; the fields; the body.
abbrev pub pirsr_wrong : MasksAsked → ℕ
pirsr_wrong = fault_by pirsr_row

abbrev pub pirsr_fields : MasksAsked → List (List ℕ)
pirsr_fields = fields_for pirsr_row

abbrev pub pirsr_body : MasksAsked → List ℕ
pirsr_body r = maker_body "PIRSR" (pirsr_fields r)
