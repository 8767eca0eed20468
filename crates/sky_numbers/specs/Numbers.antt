-- A sky as 254 numbers: talker, count, and for each of 36 places the seven of an entry.
use Rattle.std.specs.Prelude.{List, ℤ}
use Rattle.address.specs.declared.Talker.{Talker}
use Rattle.kind_gsv.specs.Blank.{blank_entry}
use Rattle.sky.specs.declared.Table.{Table}
use Rattle.numbers.specs.Layout.{◌then◌, Layout, several, shaped, standard, standard_numbers, whole}
use Rattle.kind_gsv.specs.Row.{entry_layout}

unfoldable pub table_layout : Layout Table
table_layout =
    shaped (λ v. record { count = v.0; entries = v.1 }) (λ r. (r.count, r.entries)) (whole then several 36 blank_entry entry_layout)

abbrev pub sky_numbers : Talker → Table → List ℤ
sky_numbers = standard_numbers table_layout

-- The table that numbers say, behind the talker's; a number that is not there is taken as 0.
abbrev pub table_at : List ℤ → Table
table_at n = ((standard table_layout).at n 0).1
