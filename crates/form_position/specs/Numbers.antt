-- A position as numbers: a mark, then latitude and longitude.
use Rattle.std.specs.Prelude.{pos}
use Rattle.numbers.specs.Layout.{◌then◌, Layout, marked, shaped, signed}
use Rattle.form_position.specs.declared.Place.{Place}

abbrev pub place_layout : Layout Place
place_layout =
    shaped (λ v. record { there = v.0; lat = v.1.0; lon = v.1.1 }) (λ r. (r.there, (r.lat, r.lon)))
    (marked (pos 1, pos 0) (signed then signed))
