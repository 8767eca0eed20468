-- The layouts of these values are lawful: numbers bring the value back.
use mathlib.Core.Path.{refl}
use lib.IntN.{pos}
use Rattle.numbers.specs.Layout.{◌then◌, marked, signed}
use Rattle.numbers.proofs.Layouts.{LawfulLayout, lawful-signed, ◌⊗◌, lawful-shaped, lawful-marked}
use Rattle.form_position.specs.Numbers.{place_layout}

pub lawful-place : LawfulLayout place_layout
lawful-place =
    lawful-shaped (λ v. record { there = v.0; lat = v.1.0; lon = v.1.1 }) (λ r. (r.there, (r.lat, r.lon)))
    (marked (pos 1, pos 0) (signed then signed)) (λ r. refl) (lawful-marked (pos 1, pos 0) (lawful-signed ⊗ lawful-signed))
