-- Numbers and speeds as values of a record, and the texts of their fields; a missing one is an empty field.
use Rattle.std.specs.Prelude.{ℕ, false, ◌++◌, List, nat_abs, ℤ}
use Rattle.digits.specs.Plain.{number_text}
use Rattle.digits.specs.Sign.{sign_text}
use Rattle.form.specs.Values.{if_there}
use Rattle.form.specs.declared.got.Got.{Got}
use Rattle.form.specs.declared.got.GotInt.{GotInt}
use Rattle.form_number.specs.declared.Kmh.{Kmh}
use Rattle.form_number.specs.declared.Knots.{Knots}
use Rattle.form_number.specs.declared.Number.{Number}
use Rattle.form_number.specs.declared.Signed.{Signed}

abbrev pub number_of : Got → Number
number_of g = record { there = g.there; value = g.value }

abbrev pub knots_of : Got → Knots
knots_of g = record { there = g.there; value = g.value }

abbrev pub kmh_of : Got → Kmh
kmh_of g = record { there = g.there; value = g.value }

abbrev pub signed_of : GotInt → Signed
signed_of g = record { there = g.there; value = g.value }

abbrev pub no_number : Number
no_number = record { there = false; value = 0 }

-- A number, and a speed.
abbrev pub number_field : Number → List ℕ
number_field n = if_there n.there (number_text n.value)

abbrev pub knots_field : Knots → List ℕ
knots_field n = if_there n.there (number_text n.value)

abbrev pub kmh_field : Kmh → List ℕ
kmh_field n = if_there n.there (number_text n.value)

-- A height: a number with its minus; minus zero is not written.
abbrev pub height_text : ℤ → List ℕ
height_text z = sign_text z ++ number_text (nat_abs z)

abbrev pub height_field : Signed → List ℕ
height_field n = if_there n.there (height_text n.value)
