-- PIRER (1): `0` only.
use Rattle.std.specs.Prelude.{ℕ, [], List, ℤ}
use Rattle.digits.specs.Ascii.{ascii}
use Rattle.frame.specs.Body.{maker_body}
use Rattle.form.specs.Forms.{single}
use Rattle.form.specs.Kind.{answer_by, fields_for, read_by}
use Rattle.form.specs.Row.{Form, one, Row}
use Rattle.form.specs.declared.got.Got.{Got}
use Rattle.form_number.specs.Fixed.{exact_form}
use Rattle.numbers.specs.Told.{Answer, gives, refuses}
use Rattle.numbers.specs.Layout.{nothing}

abbrev pub zero_digit : Form Got (Unit {0})
zero_digit = single 2 nothing (exact_form 1 0 0) (λ g. tt) (λ v. 0) (λ v. ascii "0")

abbrev pub Readings : Type 0
Readings = Got

unfoldable pub pirer_row : Row Readings (Unit {0})
pirer_row = one zero_digit

-- What the contracts cite.
abbrev pub pirer_from : List ℤ → Got → Answer
pirer_from out zero =
    answer_by (refuses out) pirer_row (λ v. gives out 11 []) zero

abbrev pub pirer_told : List ℤ → ℕ → (ℕ → List ℕ) → Answer
pirer_told out = read_by (refuses out) pirer_row (λ v. gives out 11 [])

-- The fields, and the body.
abbrev pub pirer_fields : List (List ℕ)
pirer_fields = fields_for pirer_row tt

abbrev pub pirer_body : List ℕ
pirer_body = maker_body "PIRER" pirer_fields
