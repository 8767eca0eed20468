-- PIRSA (3): 8 and 6 digits and an empty third field.
use Rattle.std.specs.Prelude.{ℕ, List, ℤ}
use Rattle.frame.specs.Body.{maker_body}
use Rattle.form.specs.Forms.{empty_field}
use Rattle.form.specs.Kind.{answer_by, fault_by, fields_for, read_by}
use Rattle.form.specs.Row.{◌▷◌, made, one, Row}
use Rattle.form.specs.declared.got.Got.{Got}
use Rattle.form_mask.specs.Forms.{whole_mask}
use Rattle.kind_pir_masks.specs.declared.reply.MasksTold.{MasksTold}
use Rattle.kind_pir_masks.specs.Command.{glonass_most, gps_most}
use Rattle.numbers.specs.Layout.{Layout, maker_numbers}
use Rattle.numbers.specs.Told.{Answer, gives, refuses}

abbrev pub Readings : Type 0
Readings = Got × (Got × ℕ)

abbrev pub Values : Type 0
Values = ℕ × (ℕ × Unit {0})

abbrev pub pirsa_parts : Row Readings Values
pirsa_parts = one (whole_mask 8 gps_most) ▷ one (whole_mask 6 glonass_most) ▷ one empty_field

unfoldable pub pirsa_row : Row Readings MasksTold
pirsa_row =
    made
    (λ v. record { gps = v.0; glonass = v.1.0 })
    (λ r. (r.gps, (r.glonass, tt)))
    pirsa_parts

-- The record as numbers, as docs/LAYOUT.md lays them out, in the order of its fields; and back.
unfoldable pub pirsa_layout : Layout MasksTold
pirsa_layout = pirsa_row.layout

abbrev pub pirsa_numbers : MasksTold → List ℤ
pirsa_numbers = maker_numbers pirsa_layout

abbrev pub pirsa_at : List ℤ → MasksTold
pirsa_at n = pirsa_layout.at n 0

-- What the contracts cite.
abbrev pub pirsa_from : List ℤ → Got → Got → ℕ → Answer
pirsa_from out gps glonass third =
    answer_by (refuses out) pirsa_row (λ r. gives out 14 (pirsa_numbers r)) (gps, (glonass, third))

abbrev pub pirsa_told : List ℤ → ℕ → (ℕ → List ℕ) → Answer
pirsa_told out = read_by (refuses out) pirsa_row (λ r. gives out 14 (pirsa_numbers r))

-- The first value outside its range, by the number of its field, or 0; the fields; the body.
abbrev pub pirsa_wrong : MasksTold → ℕ
pirsa_wrong = fault_by pirsa_row

abbrev pub pirsa_fields : MasksTold → List (List ℕ)
pirsa_fields = fields_for pirsa_row

abbrev pub pirsa_body : MasksTold → List ℕ
pirsa_body r = maker_body "PIRSA" (pirsa_fields r)
