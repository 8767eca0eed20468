-- The laws of the row of GGA, form by form: what is written is read back, what was read is in range, and which field a 5 names.
use mathlib.Core.Path.{refl}
use lib.Dec.{lit<, lit≤}
use Rattle.form.proofs.Laws.{◌⊵◌, LawfulForm, ShortForm, Tight, tight-made, tight-one}
use Rattle.form.proofs.PlaceLaws.{Prefix, prefix-made, prefix-one, PrefixForm}
use Rattle.form.proofs.PlaceRows.{◌⊩◌}
use Rattle.form_number.proofs.Laws.{lawful-exact, lawful-fixed, lawful-number, short-exact, short-fixed, short-number, tight-metres}
use Rattle.form_number.proofs.Place.{prefix-exact, prefix-fixed, prefix-metres, prefix-number}
use Rattle.form_time.proofs.Laws.{lawful-time, prefix-time, short-time}
use Rattle.form_position.proofs.Laws.{lawful-place, short-place}
use Rattle.form_position.proofs.PlacePosition.{prefix-place}
use Rattle.kind_gga.specs.Row.{gga_parts, gga_row, station, station_most}

pub lawful-station : LawfulForm station
lawful-station = lawful-fixed 4 0 station_most (lit≤ tt) (lit≤ tt) (lit< tt)

pub short-station : ShortForm station
short-station = short-fixed 4 0 station_most

pub prefix-station : PrefixForm station
prefix-station = prefix-fixed 4 0 station_most

pub tight-gga : Tight gga_row
unfolding gga_row
tight-gga =
    tight-made _ _ gga_parts (λ v. refl) (λ r. refl) (tight-one lawful-time short-time ⊵ tight-one lawful-place short-place
    ⊵ tight-one (lawful-exact 1 0 8 (lit≤ tt) (lit≤ tt) (lit< tt)) (short-exact 1 0 8)
    ⊵ tight-one (lawful-fixed 2 0 99 (lit≤ tt) (lit≤ tt) (lit< tt)) (short-fixed 2 0 99) ⊵ tight-one lawful-number short-number
    ⊵ tight-metres ⊵ tight-metres ⊵ tight-one lawful-number short-number ⊵ tight-one lawful-station short-station)

pub prefix-gga : Prefix gga_row
unfolding gga_row
prefix-gga =
    prefix-made _ _ gga_parts (λ v. refl)
    (prefix-one prefix-time ⊩ prefix-one prefix-place ⊩ prefix-one (prefix-exact 1 0 8 (lit≤ tt) (lit< tt) (lit≤ tt))
    ⊩ prefix-one (prefix-fixed 2 0 99) ⊩ prefix-one prefix-number ⊩ prefix-metres ⊩ prefix-metres ⊩ prefix-one prefix-number
    ⊩ prefix-one prefix-station)
