-- The laws of the row of ZDA, form by form: what is written is read back, what was read is in range, and which field a 5 names.
use Prim.Native.Nat.{◌+◌, ℕ}
use mathlib.Core.List.{List}
use mathlib.Core.Path.{refl}
use Rattle.form.proofs.Laws.{◌⊵◌, Tight, tight-made, tight-one}
use Rattle.form.proofs.PlaceLaws.{eased, prefix-made, prefix-one, PrefixBut}
use Rattle.form.proofs.PlaceRows.{◌⊪◌}
use Rattle.form_time.proofs.Laws.{lawful-time, prefix-time, short-time}
use Rattle.form_date.proofs.Laws.{lawful-day_month_year, lawful-hours_minutes, short-day_month_year, short-hours_minutes}
use Rattle.form_date.proofs.PlaceDate.{prefix-day_month_year, usual_date}
use Rattle.form_date.proofs.PlaceZone.{prefix-hours_minutes}
use Rattle.kind_zda.specs.Row.{zda_parts, zda_row}

pub tight-zda : Tight zda_row
unfolding zda_row
tight-zda =
    tight-made _ _ zda_parts (λ v. refl) (λ r. refl) (tight-one lawful-time short-time ⊵ tight-one lawful-day_month_year short-day_month_year
    ⊵ tight-one lawful-hours_minutes short-hours_minutes)

-- Some year has the day of the month that stand in the second and the third field.
abbrev pub usual_zda : (ℕ → List ℕ) → ℕ → Type 0
usual_zda field n = usual_date (λ k. field (n + 1 + k))

pub prefix-zda : PrefixBut zda_row usual_zda
unfolding zda_row
prefix-zda =
    prefix-made _ _ zda_parts (λ v. refl)
    (eased (λ field n u. (tt, (u, tt))) (prefix-one prefix-time ⊪ (prefix-one prefix-day_month_year ⊪ prefix-one prefix-hours_minutes)))
