-- The laws of the row of GLL, form by form: what is written is read back, what was read is in range, and which field a 5 names.
use mathlib.Core.Path.{refl}
use Rattle.form.proofs.Laws.{◌⊵◌, Tight, tight-made, tight-one}
use Rattle.form.proofs.PlaceLaws.{Prefix, prefix-made, prefix-one}
use Rattle.form.proofs.PlaceRows.{◌⊩◌}
use Rattle.form_letter.proofs.Laws.{lawful-mode, lawful-status, short-mode, short-status}
use Rattle.form_letter.proofs.Place.{prefix-mode, prefix-status}
use Rattle.form_time.proofs.Laws.{lawful-time, prefix-time, short-time}
use Rattle.form_position.proofs.Laws.{lawful-place, short-place}
use Rattle.form_position.proofs.PlacePosition.{prefix-place}
use Rattle.kind_gll.specs.Row.{gll_parts, gll_row}

pub tight-gll : Tight gll_row
unfolding gll_row
tight-gll =
    tight-made _ _ gll_parts (λ v. refl) (λ r. refl)
    (tight-one lawful-place short-place ⊵ tight-one lawful-time short-time ⊵ tight-one lawful-status short-status
    ⊵ tight-one lawful-mode short-mode)

pub prefix-gll : Prefix gll_row
unfolding gll_row
prefix-gll =
    prefix-made _ _ gll_parts (λ v. refl)
    (prefix-one prefix-place ⊩ prefix-one prefix-time ⊩ prefix-one prefix-status ⊩ prefix-one prefix-mode)
