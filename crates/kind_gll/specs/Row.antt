-- GLL (7): position (4), time, status, mode.
use Rattle.std.specs.Prelude.{ℕ, List, ℤ}
use Rattle.address.specs.declared.Talker.{Talker}
use Rattle.frame.specs.Body.{standard_body}
use Rattle.form.specs.Kind.{answer_by, fault_by, fields_for, read_by}
use Rattle.form.specs.Row.{◌▷◌, made, one, Row}
use Rattle.form.specs.declared.Maybe.{Maybe}
use Rattle.form.specs.declared.got.Got.{Got}
use Rattle.form_letter.specs.Letters.{mode, status}
use Rattle.form_time.specs.Time.{time}
use Rattle.form_position.specs.Forms.{place}
use Rattle.form_position.specs.declared.Place.{Place}
use Rattle.form_position.specs.declared.Position.{Position}
use Rattle.kind_gll.specs.declared.Gll.{Gll}
use Rattle.numbers.specs.Layout.{Layout, standard, standard_numbers}
use Rattle.numbers.specs.Told.{Answer, gives, refuses}

abbrev pub Readings : Type 0
Readings = Position × (Got × (Got × Got))

abbrev pub Values : Type 0
Values = Place × (Maybe × (ℕ × ℕ))

abbrev pub gll_parts : Row Readings Values
gll_parts = one place ▷ one time ▷ one status ▷ one mode

unfoldable pub gll_row : Row Readings Gll
gll_row =
    made
    (λ v. record { place = v.0; time = v.1.0; status = v.1.1.0; mode = v.1.1.1 })
    (λ r. (r.place, (r.time, (r.status, r.mode))))
    gll_parts

-- The record as numbers, as docs/LAYOUT.md lays them out, in the order of its fields; and back.
unfoldable pub gll_layout : Layout Gll
gll_layout = gll_row.layout

abbrev pub gll_numbers : Talker → Gll → List ℤ
gll_numbers = standard_numbers gll_layout

abbrev pub gll_at : List ℤ → Gll
gll_at n = ((standard gll_layout).at n 0).1

-- What the contracts cite.
abbrev pub gll_from : List ℤ → Talker → Position → Got → Got → Got → Answer
gll_from out t place time status mode =
    answer_by (refuses out) gll_row (λ r. gives out 2 (gll_numbers t r)) (place, (time, (status, mode)))

abbrev pub gll_told : List ℤ → Talker → ℕ → (ℕ → List ℕ) → Answer
gll_told out t = read_by (refuses out) gll_row (λ r. gives out 2 (gll_numbers t r))

-- The first value outside its range, by the number of its field, or 0; the fields; the body.
abbrev pub gll_wrong : Gll → ℕ
gll_wrong = fault_by gll_row

abbrev pub gll_fields : Gll → List (List ℕ)
gll_fields = fields_for gll_row

abbrev pub gll_body : Talker → Gll → List ℕ
gll_body t r = standard_body t "GLL" (gll_fields r)
