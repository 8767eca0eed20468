-- The laws of the rows of PIRSR and PIRSA, form by form: what is written is read back, what was read is in range, and which field a 5
-- names.
use mathlib.Core.Path.{refl}
use lib.Dec.{lit≤}
use Rattle.form.proofs.FormLaws.{lawful-empty_field}
use Rattle.form.proofs.Laws.{◌⊳◌, Lawful, lawful-made, lawful-one}
use Rattle.form.proofs.PlaceForms.{prefix-empty_field}
use Rattle.form.proofs.PlaceLaws.{Prefix, prefix-made, prefix-one}
use Rattle.form.proofs.PlaceRows.{◌⊩◌}
use Rattle.form_mask.proofs.Laws.{lawful-satellite_mask, lawful-whole_mask}
use Rattle.form_mask.proofs.Place.{prefix-satellite_mask, prefix-whole_mask}
use Rattle.kind_pir_masks.specs.Command.{glonass_most, gps_most, pirsr_parts, pirsr_row}
use Rattle.kind_pir_masks.specs.Reply.{pirsa_parts, pirsa_row}

pub lawful-pirsr : Lawful pirsr_row
unfolding pirsr_row
lawful-pirsr =
    lawful-made _ _ pirsr_parts (λ v. refl) (λ r. refl) (lawful-one (lawful-satellite_mask 8 gps_most (lit≤ tt) (lit≤ tt) refl)
    ⊳ lawful-one (lawful-satellite_mask 6 glonass_most (lit≤ tt) (lit≤ tt) refl) ⊳ lawful-one lawful-empty_field)

pub lawful-pirsa : Lawful pirsa_row
unfolding pirsa_row
lawful-pirsa =
    lawful-made _ _ pirsa_parts (λ v. refl) (λ r. refl) (lawful-one (lawful-whole_mask 8 gps_most (lit≤ tt) (lit≤ tt) refl)
    ⊳ lawful-one (lawful-whole_mask 6 glonass_most (lit≤ tt) (lit≤ tt) refl) ⊳ lawful-one lawful-empty_field)

pub prefix-pirsr : Prefix pirsr_row
unfolding pirsr_row
prefix-pirsr =
    prefix-made _ _ pirsr_parts (λ v. refl)
    (prefix-one (prefix-satellite_mask 8 gps_most) ⊩ prefix-one (prefix-satellite_mask 6 glonass_most) ⊩ prefix-one prefix-empty_field)

pub prefix-pirsa : Prefix pirsa_row
unfolding pirsa_row
prefix-pirsa =
    prefix-made _ _ pirsa_parts (λ v. refl)
    (prefix-one (prefix-whole_mask 8 gps_most (lit≤ tt) refl) ⊩ prefix-one (prefix-whole_mask 6 glonass_most (lit≤ tt) refl)
    ⊩ prefix-one prefix-empty_field)
