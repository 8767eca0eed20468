-- RMC (12): time, status, position (4), knots, course, date, variation, E/W, mode.
use Rattle.std.specs.Prelude.{ℕ, List, ℤ}
use Rattle.address.specs.declared.Talker.{Talker}
use Rattle.frame.specs.Body.{standard_body}
use Rattle.form.specs.Kind.{answer_by, fault_by, fields_for, read_by}
use Rattle.form.specs.Row.{◌▷◌, made, one, Row}
use Rattle.form.specs.declared.Maybe.{Maybe}
use Rattle.form.specs.declared.got.Got.{Got}
use Rattle.form.specs.declared.got.GotInt.{GotInt}
use Rattle.form_letter.specs.Letters.{mode, status}
use Rattle.form_number.specs.Forms.{course, knots}
use Rattle.form_number.specs.declared.Knots.{Knots}
use Rattle.form_number.specs.declared.Number.{Number}
use Rattle.form_number.specs.declared.Signed.{Signed}
use Rattle.form_time.specs.Time.{time}
use Rattle.form_date.specs.Forms.{ddmmyy}
use Rattle.form_date.specs.declared.Date.{Date}
use Rattle.form_date.specs.declared.dates.GotDate.{GotDate}
use Rattle.form_position.specs.Forms.{place, variation}
use Rattle.form_position.specs.declared.Place.{Place}
use Rattle.form_position.specs.declared.Position.{Position}
use Rattle.kind_rmc.specs.declared.Rmc.{Rmc}
use Rattle.numbers.specs.Layout.{Layout, standard, standard_numbers}
use Rattle.numbers.specs.Told.{Answer, gives, refuses}

abbrev pub Readings : Type 0
Readings = Got × (Got × (Position × (Got × (Got × (GotDate × (GotInt × Got))))))

abbrev pub Values : Type 0
Values = Maybe × (ℕ × (Place × (Knots × (Number × (Date × (Signed × ℕ))))))

abbrev pub rmc_parts : Row Readings Values
rmc_parts = one time ▷ one status ▷ one place ▷ one knots ▷ one course ▷ one ddmmyy ▷ one variation ▷ one mode

unfoldable pub rmc_row : Row Readings Rmc
rmc_row =
    made
    (λ v. record {
      time = v.0;
      status = v.1.0;
      place = v.1.1.0;
      speed = v.1.1.1.0;
      course = v.1.1.1.1.0;
      date = v.1.1.1.1.1.0;
      variation = v.1.1.1.1.1.1.0;
      mode = v.1.1.1.1.1.1.1;
    })
    (λ r. (r.time, (r.status, (r.place, (r.speed, (r.course, (r.date, (r.variation, r.mode))))))))
    rmc_parts

-- The record as numbers, as docs/LAYOUT.md lays them out, in the order of its fields; and back.
unfoldable pub rmc_layout : Layout Rmc
rmc_layout = rmc_row.layout

abbrev pub rmc_numbers : Talker → Rmc → List ℤ
rmc_numbers = standard_numbers rmc_layout

abbrev pub rmc_at : List ℤ → Rmc
rmc_at n = ((standard rmc_layout).at n 0).1

-- What the contracts cite.
abbrev pub rmc_from : List ℤ → Talker → Got → Got → Position → Got → Got → GotDate → GotInt → Got → Answer
rmc_from out t time status place speed course date variation mode =
    answer_by (refuses out) rmc_row (λ r. gives out 5 (rmc_numbers t r))
    (time, (status, (place, (speed, (course, (date, (variation, mode)))))))

abbrev pub rmc_told : List ℤ → Talker → ℕ → (ℕ → List ℕ) → Answer
rmc_told out t = read_by (refuses out) rmc_row (λ r. gives out 5 (rmc_numbers t r))

-- The first value outside its range, by the number of its field, or 0; the fields; the body.
abbrev pub rmc_wrong : Rmc → ℕ
rmc_wrong = fault_by rmc_row

abbrev pub rmc_fields : Rmc → List (List ℕ)
rmc_fields = fields_for rmc_row

abbrev pub rmc_body : Talker → Rmc → List ℕ
rmc_body t r = standard_body t "RMC" (rmc_fields r)
