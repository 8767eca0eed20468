-- The layouts of these values are lawful: numbers bring the value back.
use mathlib.Core.Path.{refl}
use lib.IntN.{pos}
use Rattle.numbers.specs.Layout.{marked, signed, whole}
use Rattle.numbers.proofs.Layouts.{LawfulLayout, lawful-whole, lawful-signed, lawful-shaped, lawful-marked}
use Rattle.form_number.specs.Numbers.{number_layout, knots_layout, kmh_layout, signed_layout}

pub lawful-number : LawfulLayout number_layout
lawful-number =
    lawful-shaped (λ v. record { there = v.0; value = v.1 }) (λ r. (r.there, r.value)) (marked 1 whole) (λ r. refl)
    (lawful-marked 1 lawful-whole)

pub lawful-knots : LawfulLayout knots_layout
lawful-knots =
    lawful-shaped (λ v. record { there = v.0; value = v.1 }) (λ r. (r.there, r.value)) (marked 1 whole) (λ r. refl)
    (lawful-marked 1 lawful-whole)

pub lawful-kmh : LawfulLayout kmh_layout
lawful-kmh =
    lawful-shaped (λ v. record { there = v.0; value = v.1 }) (λ r. (r.there, r.value)) (marked 1 whole) (λ r. refl)
    (lawful-marked 1 lawful-whole)

pub lawful-signs : LawfulLayout signed_layout
lawful-signs =
    lawful-shaped (λ v. record { there = v.0; value = v.1 }) (λ r. (r.there, r.value)) (marked (pos 1) signed) (λ r. refl)
    (lawful-marked (pos 1) lawful-signed)
