-- VTG (9): true course, T, magnetic course, M, speed in knots, N, speed in km/h, K, mode.
use Rattle.std.specs.Prelude.{ℕ, List, ℤ}
use Rattle.address.specs.declared.Talker.{Talker}
use Rattle.frame.specs.Body.{standard_body}
use Rattle.form.specs.Kind.{answer_by, fault_by, fields_for, read_by}
use Rattle.form.specs.Row.{◌▷◌, made, one, Row}
use Rattle.form.specs.declared.got.Got.{Got}
use Rattle.form_letter.specs.Letters.{mode}
use Rattle.form_number.specs.Forms.{kmh_unit, knots_unit, magnetic_course, true_course}
use Rattle.form_number.specs.declared.Kmh.{Kmh}
use Rattle.form_number.specs.declared.Knots.{Knots}
use Rattle.form_number.specs.declared.Number.{Number}
use Rattle.kind_vtg.specs.declared.Vtg.{Vtg}
use Rattle.numbers.specs.Layout.{Layout, standard, standard_numbers}
use Rattle.numbers.specs.Told.{Answer, gives, refuses}

abbrev pub Readings : Type 0
Readings = (Got × ℕ) × ((Got × ℕ) × ((Got × ℕ) × ((Got × ℕ) × Got)))

abbrev pub Values : Type 0
Values = Number × (Number × (Knots × (Kmh × ℕ)))

abbrev pub vtg_parts : Row Readings Values
vtg_parts = true_course ▷ magnetic_course ▷ knots_unit ▷ kmh_unit ▷ one mode

unfoldable pub vtg_row : Row Readings Vtg
vtg_row =
    made
    (λ v. record { course = v.0; magnetic = v.1.0; knots = v.1.1.0; kmh = v.1.1.1.0; mode = v.1.1.1.1 })
    (λ r. (r.course, (r.magnetic, (r.knots, (r.kmh, r.mode)))))
    vtg_parts

-- The record as numbers, as docs/LAYOUT.md lays them out, in the order of its fields; and back.
unfoldable pub vtg_layout : Layout Vtg
vtg_layout = vtg_row.layout

abbrev pub vtg_numbers : Talker → Vtg → List ℤ
vtg_numbers = standard_numbers vtg_layout

abbrev pub vtg_at : List ℤ → Vtg
vtg_at n = ((standard vtg_layout).at n 0).1

-- What the contracts cite.
abbrev pub vtg_from : List ℤ → Talker → Got → ℕ → Got → ℕ → Got → ℕ → Got → ℕ → Got → Answer
vtg_from out t course t2 magnetic m4 speed n6 metric k8 mode =
    answer_by (refuses out) vtg_row (λ r. gives out 6 (vtg_numbers t r)) ((course, t2), ((magnetic, m4), ((speed, n6), ((metric, k8), mode))))

abbrev pub vtg_told : List ℤ → Talker → ℕ → (ℕ → List ℕ) → Answer
vtg_told out t = read_by (refuses out) vtg_row (λ r. gives out 6 (vtg_numbers t r))

-- The first value outside its range, by the number of its field, or 0; the fields; the body.
abbrev pub vtg_wrong : Vtg → ℕ
vtg_wrong = fault_by vtg_row

abbrev pub vtg_fields : Vtg → List (List ℕ)
vtg_fields = fields_for vtg_row

abbrev pub vtg_body : Talker → Vtg → List ℕ
vtg_body t r = standard_body t "VTG" (vtg_fields r)
