-- The laws of the row of RMC, form by form: what is written is read back, what was read is in range, and which field a 5 names.
use mathlib.Core.Path.{refl}
use Rattle.form.proofs.Laws.{◌⊵◌, Tight, tight-made, tight-one}
use Rattle.form.proofs.PlaceLaws.{Prefix, prefix-made, prefix-one}
use Rattle.form.proofs.PlaceRows.{◌⊩◌}
use Rattle.form_letter.proofs.Laws.{lawful-mode, lawful-status, short-mode, short-status}
use Rattle.form_letter.proofs.Place.{prefix-mode, prefix-status}
use Rattle.form_number.proofs.Laws.{lawful-course, lawful-knots, short-course, short-knots}
use Rattle.form_number.proofs.Place.{prefix-course, prefix-knots}
use Rattle.form_time.proofs.Laws.{lawful-time, prefix-time, short-time}
use Rattle.form_date.proofs.Laws.{lawful-ddmmyy, short-ddmmyy}
use Rattle.form_date.proofs.PlaceDate.{prefix-ddmmyy}
use Rattle.form_position.proofs.Laws.{lawful-place, lawful-variation, short-place, short-variation}
use Rattle.form_position.proofs.PlacePosition.{prefix-place}
use Rattle.form_position.proofs.PlaceSides.{prefix-variation}
use Rattle.kind_rmc.specs.Row.{rmc_parts, rmc_row}

pub tight-rmc : Tight rmc_row
unfolding rmc_row
tight-rmc =
    tight-made _ _ rmc_parts (λ v. refl) (λ r. refl)
    (tight-one lawful-time short-time ⊵ tight-one lawful-status short-status ⊵ tight-one lawful-place short-place
    ⊵ tight-one lawful-knots short-knots ⊵ tight-one lawful-course short-course ⊵ tight-one lawful-ddmmyy short-ddmmyy
    ⊵ tight-one lawful-variation short-variation ⊵ tight-one lawful-mode short-mode)

pub prefix-rmc : Prefix rmc_row
unfolding rmc_row
prefix-rmc =
    prefix-made _ _ rmc_parts (λ v. refl)
    (prefix-one prefix-time ⊩ prefix-one prefix-status ⊩ prefix-one prefix-place ⊩ prefix-one prefix-knots ⊩ prefix-one prefix-course
    ⊩ prefix-one prefix-ddmmyy ⊩ prefix-one prefix-variation ⊩ prefix-one prefix-mode)
