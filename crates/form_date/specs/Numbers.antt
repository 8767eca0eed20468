-- A date and a zone as numbers: a mark, then day, month and year, or minutes.
use Rattle.std.specs.Prelude.{pos}
use Rattle.numbers.specs.Layout.{◌then◌, Layout, marked, shaped, signed, whole}
use Rattle.form_date.specs.declared.Date.{Date}
use Rattle.form_date.specs.declared.Zone.{Zone}

abbrev pub date_layout : Layout Date
date_layout =
    shaped (λ v. record { there = v.0; day = v.1.0; month = v.1.1.0; year = v.1.1.1 })
    (λ r. (r.there, (r.day, (r.month, r.year))))
    (marked (1, (0, 0)) (whole then whole then whole))

abbrev pub zone_layout : Layout Zone
zone_layout = shaped (λ v. record { there = v.0; minutes = v.1 }) (λ r. (r.there, r.minutes)) (marked (pos 1) signed)
