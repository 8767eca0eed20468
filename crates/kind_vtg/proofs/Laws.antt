-- The laws of the row of VTG, form by form: what is written is read back, what was read is in range, and which field a 5 names.
use mathlib.Core.Path.{refl}
use Rattle.form.proofs.Laws.{◌⊵◌, Tight, tight-made, tight-one}
use Rattle.form.proofs.PlaceLaws.{Prefix, prefix-made, prefix-one}
use Rattle.form.proofs.PlaceRows.{◌⊩◌}
use Rattle.form_letter.proofs.Laws.{lawful-mode, short-mode}
use Rattle.form_letter.proofs.Place.{prefix-mode}
use Rattle.form_number.proofs.Laws.{tight-kmh_unit, tight-knots_unit, tight-magnetic_course, tight-true_course}
use Rattle.form_number.proofs.Place.{prefix-kmh_unit, prefix-knots_unit, prefix-magnetic_course, prefix-true_course}
use Rattle.kind_vtg.specs.Row.{vtg_parts, vtg_row}

pub tight-vtg : Tight vtg_row
unfolding vtg_row
tight-vtg =
    tight-made _ _ vtg_parts (λ v. refl) (λ r. refl)
    (tight-true_course ⊵ tight-magnetic_course ⊵ tight-knots_unit ⊵ tight-kmh_unit ⊵ tight-one lawful-mode short-mode)

pub prefix-vtg : Prefix vtg_row
unfolding vtg_row
prefix-vtg =
    prefix-made _ _ vtg_parts (λ v. refl)
    (prefix-true_course ⊩ prefix-magnetic_course ⊩ prefix-knots_unit ⊩ prefix-kmh_unit ⊩ prefix-one prefix-mode)
