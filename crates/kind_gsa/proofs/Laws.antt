-- The laws of the row of GSA, form by form: what is written is read back, what was read is in range, and which field a 5 names.
use mathlib.Core.Path.{refl}
use lib.Dec.{lit<, lit≤}
use Rattle.form.specs.Row.{one}
use Rattle.form.proofs.Laws.{◌⊵◌, Tight, tight-one}
use Rattle.form.proofs.PlaceLaws.{Prefix, prefix-one}
use Rattle.form.proofs.PlaceRows.{◌⊩◌}
use Rattle.form_letter.specs.Letters.{selections}
use Rattle.form_letter.proofs.Back.{clean-selection}
use Rattle.form_letter.proofs.Laws.{lawful-letter, short-letter}
use Rattle.form_letter.proofs.Place.{prefix-letter}
use Rattle.form_number.specs.Fixed.{satellite_least, satellite_most}
use Rattle.form_number.proofs.Laws.{lawful-exact, lawful-fixed, lawful-number, short-exact, short-fixed, short-number}
use Rattle.form_number.proofs.Place.{prefix-exact, prefix-fixed, prefix-number}
use Rattle.kind_gsa.specs.Row.{four_row, gsa_row, satellite}

tight-satellite : Tight (one satellite)
tight-satellite =
    tight-one (lawful-fixed 2 satellite_least satellite_most (lit≤ tt) (lit≤ tt) (lit< tt)) (short-fixed 2 satellite_least satellite_most)

tight-four : Tight four_row
tight-four = tight-satellite ⊵ tight-satellite ⊵ tight-satellite ⊵ tight-satellite

pub tight-gsa : Tight gsa_row
unfolding gsa_row
tight-gsa =
    let number = tight-one lawful-number short-number in
    tight-one (lawful-letter selections clean-selection) (short-letter selections)
    ⊵ tight-one (lawful-exact 1 1 3 (lit≤ tt) (lit≤ tt) (lit< tt)) (short-exact 1 1 3)
    ⊵ (tight-four ⊵ tight-four ⊵ tight-four) ⊵ number ⊵ number ⊵ number

prefix-four : Prefix four_row
prefix-four =
    let satellite = prefix-one (prefix-fixed 2 satellite_least satellite_most) in
    satellite ⊩ satellite ⊩ satellite ⊩ satellite

pub prefix-gsa : Prefix gsa_row
unfolding gsa_row
prefix-gsa =
    let number = prefix-one prefix-number in
    prefix-one (prefix-letter selections refl clean-selection) ⊩ prefix-one (prefix-exact 1 1 3 (lit≤ tt) (lit< tt) (lit≤ tt))
    ⊩ (prefix-four ⊩ prefix-four ⊩ prefix-four) ⊩ number ⊩ number ⊩ number
