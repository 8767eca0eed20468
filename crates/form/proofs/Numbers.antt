-- The layouts of these values are lawful: numbers bring the value back.
use mathlib.Core.Path.{refl}
use Rattle.numbers.specs.Layout.{marked, whole}
use Rattle.numbers.proofs.Layouts.{LawfulLayout, lawful-whole, lawful-shaped, lawful-marked}
use Rattle.form.specs.Numbers.{maybe_layout}

pub lawful-maybe : LawfulLayout maybe_layout
lawful-maybe =
    lawful-shaped (λ v. record { there = v.0; value = v.1 }) (λ r. (r.there, r.value)) (marked 1 whole) (λ r. refl)
    (lawful-marked 1 lawful-whole)
