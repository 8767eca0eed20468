-- The laws of the rows of PIRTR and PIRTA, form by form: what is written is read back, what was read is in range, and which field a 5
-- names.
use mathlib.Core.Path.{refl}
use lib.Dec.{lit<, lit≤}
use Rattle.form.specs.Row.{one}
use Rattle.form.proofs.Laws.{◌⊳◌, Lawful, lawful-depending, lawful-made, lawful-one}
use Rattle.form.proofs.PlaceLaws.{Prefix, prefix-made, prefix-one}
use Rattle.form.proofs.PlaceRows.{◌⊩◌, prefix-depending}
use Rattle.form_number.specs.Forms.{fixed}
use Rattle.form_number.proofs.Laws.{lawful-exact, lawful-fixed}
use Rattle.form_number.proofs.Place.{prefix-exact, prefix-fixed}
use Rattle.form_date.proofs.Laws.{lawful-filled_zone, lawful-hhmm}
use Rattle.form_date.proofs.PlaceZone.{prefix-filled_zone, prefix-hhmm}
use Rattle.kind_pir_datum.specs.Command.{pirtr_parts, pirtr_row, zone}
use Rattle.kind_pir_datum.specs.Reply.{pirta_parts, pirta_row}
use Rattle.form_date.specs.Numbers.{zone_layout}

pub lawful-pirtr : Lawful pirtr_row
unfolding pirtr_row
lawful-pirtr =
    lawful-made _ _ pirtr_parts (λ v. refl) (λ r. refl)
    (lawful-depending 1 6 zone_layout (λ g. g.there) (λ m. m.there) (one (fixed 1 0 4)) zone (λ k. refl) (λ k. lit≤ tt) (λ g. refl)
    (lawful-one (lawful-fixed 1 0 4 (lit≤ tt) (lit≤ tt) (lit< tt))) (λ key. lawful-one (lawful-hhmm key)))

pub lawful-pirta : Lawful pirta_row
unfolding pirta_row
lawful-pirta =
    lawful-made _ _ pirta_parts (λ v. refl) (λ r. refl)
    (lawful-one (lawful-exact 1 0 4 (lit≤ tt) (lit≤ tt) (lit< tt)) ⊳ lawful-one lawful-filled_zone)

pub prefix-pirtr : Prefix pirtr_row
unfolding pirtr_row
prefix-pirtr =
    prefix-made _ _ pirtr_parts (λ v. refl)
    (prefix-depending 1 6 zone_layout (λ g. g.there) (λ m. m.there) (one (fixed 1 0 4)) zone (λ k. refl) (prefix-one (prefix-fixed 1 0 4))
    (λ key. prefix-one (prefix-hhmm key)))

pub prefix-pirta : Prefix pirta_row
unfolding pirta_row
prefix-pirta =
    prefix-made _ _ pirta_parts (λ v. refl) (prefix-one (prefix-exact 1 0 4 (lit≤ tt) (lit< tt) (lit≤ tt)) ⊩ prefix-one prefix-filled_zone)
