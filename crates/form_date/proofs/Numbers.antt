-- The layouts of these values are lawful: numbers bring the value back.
use mathlib.Core.Path.{refl}
use lib.IntN.{pos}
use Rattle.numbers.specs.Layout.{◌then◌, marked, signed, whole}
use Rattle.numbers.proofs.Layouts.{LawfulLayout, lawful-whole, lawful-signed, ◌⊗◌, lawful-shaped, lawful-marked}
use Rattle.form_date.specs.Numbers.{date_layout, zone_layout}

pub lawful-zone : LawfulLayout zone_layout
lawful-zone =
    lawful-shaped (λ v. record { there = v.0; minutes = v.1 }) (λ r. (r.there, r.minutes)) (marked (pos 1) signed) (λ r. refl)
    (lawful-marked (pos 1) lawful-signed)

pub lawful-date : LawfulLayout date_layout
lawful-date =
    lawful-shaped (λ v. record { there = v.0; day = v.1.0; month = v.1.1.0; year = v.1.1.1 })
    (λ r. (r.there, (r.day, (r.month, r.year)))) (marked (1, (0, 0)) (whole then whole then whole)) (λ r. refl)
    (lawful-marked (1, (0, 0)) (lawful-whole ⊗ lawful-whole ⊗ lawful-whole))
