-- What the group reader answers: a whole sky has its talker, the count and the entries in order, with unused places blank; a refused one
-- has number, line and field, no talker, count 0 and blank places.
use Rattle.std.specs.Prelude.{ℕ, ◌-◌, List, ◌++◌, length, replicate, None, Some}
use Rattle.kind_gsv.specs.declared.Entry.{Entry}
use Rattle.kind_gsv.specs.Blank.{blank_entry}
use Rattle.sky.specs.declared.Sky.{Sky}
use Rattle.sky.specs.declared.Table.{Table}
use Rattle.sky.specs.Group.{Answer, whole, refused}

-- The table of some entries; of none it is blank.
abbrev pub table_of : List Entry → Table
table_of es = record { count = length es; entries = es ++ replicate (36 - length es) blank_entry }

abbrev pub blank_table : Table
blank_table = record { count = 0; entries = replicate 36 blank_entry }

abbrev pub refused_sky : ℕ → ℕ → ℕ → Sky
refused_sky n k f = record { no = n; line = k; field = f; talker = None; table = blank_table }

abbrev pub sky_of : Answer → Sky
sky_of (whole t es) = record { no = 0; line = 0; field = 0; talker = Some t; table = table_of es }
sky_of (refused n k f) = refused_sky n k f
