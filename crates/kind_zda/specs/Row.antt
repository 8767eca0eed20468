-- ZDA (6): time, day, month, year, zone hours, zone minutes.
use Rattle.std.specs.Prelude.{ℕ, List, ℤ}
use Rattle.address.specs.declared.Talker.{Talker}
use Rattle.frame.specs.Body.{standard_body}
use Rattle.form.specs.Kind.{answer_by, fault_by, fields_for, read_by}
use Rattle.form.specs.Row.{◌▷◌, made, one, Row}
use Rattle.form.specs.declared.Maybe.{Maybe}
use Rattle.form.specs.declared.got.Got.{Got}
use Rattle.form.specs.declared.got.GotInt.{GotInt}
use Rattle.form_time.specs.Time.{time}
use Rattle.form_date.specs.Forms.{day_month_year, hours_minutes}
use Rattle.form_date.specs.declared.Date.{Date}
use Rattle.form_date.specs.declared.Zone.{Zone}
use Rattle.form_date.specs.declared.dates.GotDate.{GotDate}
use Rattle.kind_zda.specs.declared.Zda.{Zda}
use Rattle.numbers.specs.Layout.{Layout, standard, standard_numbers}
use Rattle.numbers.specs.Told.{Answer, gives, refuses}

abbrev pub Readings : Type 0
Readings = Got × (GotDate × GotInt)

abbrev pub Values : Type 0
Values = Maybe × (Date × Zone)

abbrev pub zda_parts : Row Readings Values
zda_parts = one time ▷ one day_month_year ▷ one hours_minutes

unfoldable pub zda_row : Row Readings Zda
zda_row =
    made
    (λ v. record { time = v.0; date = v.1.0; zone = v.1.1 })
    (λ r. (r.time, (r.date, r.zone)))
    zda_parts

-- The record as numbers, as docs/LAYOUT.md lays them out, in the order of its fields; and back.
unfoldable pub zda_layout : Layout Zda
zda_layout = zda_row.layout

abbrev pub zda_numbers : Talker → Zda → List ℤ
zda_numbers = standard_numbers zda_layout

abbrev pub zda_at : List ℤ → Zda
zda_at n = ((standard zda_layout).at n 0).1

-- What the contracts cite.
abbrev pub zda_from : List ℤ → Talker → Got → GotDate → GotInt → Answer
zda_from out t time date zone =
    answer_by (refuses out) zda_row (λ r. gives out 7 (zda_numbers t r)) (time, (date, zone))

abbrev pub zda_told : List ℤ → Talker → ℕ → (ℕ → List ℕ) → Answer
zda_told out t = read_by (refuses out) zda_row (λ r. gives out 7 (zda_numbers t r))

-- The first value outside its range, by the number of its field, or 0; the fields; the body.
abbrev pub zda_wrong : Zda → ℕ
zda_wrong = fault_by zda_row

abbrev pub zda_fields : Zda → List (List ℕ)
zda_fields = fields_for zda_row

abbrev pub zda_body : Talker → Zda → List ℕ
zda_body t r = standard_body t "ZDA" (zda_fields r)
