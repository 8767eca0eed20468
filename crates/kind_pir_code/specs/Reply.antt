-- PIREA (1): the code, one to three digits without needless zeros.
use Rattle.std.specs.Prelude.{ℕ, List, ℤ}
use Rattle.frame.specs.Body.{maker_body}
use Rattle.form.specs.Kind.{answer_by, fault_by, fields_for, read_by}
use Rattle.form.specs.Row.{made, one, Row}
use Rattle.form.specs.declared.got.Got.{Got}
use Rattle.form_mask.specs.Forms.{code}
use Rattle.kind_pir_code.specs.declared.reply.CodeTold.{CodeTold}
use Rattle.numbers.specs.Layout.{Layout, maker_numbers}
use Rattle.numbers.specs.Told.{Answer, gives, refuses}

abbrev pub Readings : Type 0
Readings = Got

abbrev pub Values : Type 0
Values = ℕ

abbrev pub pirea_parts : Row Readings Values
pirea_parts = one code

unfoldable pub pirea_row : Row Readings CodeTold
pirea_row =
    made
    (λ v. record { code = v })
    (λ r. r.code)
    pirea_parts

-- The record as numbers, as docs/LAYOUT.md lays them out, in the order of its fields; and back.
unfoldable pub pirea_layout : Layout CodeTold
pirea_layout = pirea_row.layout

abbrev pub pirea_numbers : CodeTold → List ℤ
pirea_numbers = maker_numbers pirea_layout

abbrev pub pirea_at : List ℤ → CodeTold
pirea_at n = pirea_layout.at n 0

-- What the contracts cite.
abbrev pub pirea_from : List ℤ → Got → Answer
pirea_from out code =
    answer_by (refuses out) pirea_row (λ r. gives out 15 (pirea_numbers r)) code

abbrev pub pirea_told : List ℤ → ℕ → (ℕ → List ℕ) → Answer
pirea_told out = read_by (refuses out) pirea_row (λ r. gives out 15 (pirea_numbers r))

-- The first value outside its range, by the number of its field, or 0; the fields; the body.
abbrev pub pirea_wrong : CodeTold → ℕ
pirea_wrong = fault_by pirea_row

abbrev pub pirea_fields : CodeTold → List (List ℕ)
pirea_fields = fields_for pirea_row

abbrev pub pirea_body : CodeTold → List ℕ
pirea_body r = maker_body "PIREA" (pirea_fields r)
