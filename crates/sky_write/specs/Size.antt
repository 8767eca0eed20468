-- How many bytes a table takes, from its entries. Nothing here is needed to know what a group is.
use Rattle.std.specs.Prelude.{◌*◌, ◌+◌, ℕ, cond, [], ◌∷◌, List, take}
use Rattle.kind_gsv.specs.declared.Entry.{Entry}
use Rattle.sky.specs.Group.{lines_for}
use Rattle.sky.specs.declared.Table.{Table}

-- Four commas and the number, and each value that is there.
unfoldable pub entry_size : Entry → ℕ
entry_size e = 6 + cond e.elevation.there 2 0 + cond e.azimuth.there 3 0 + cond e.signal.there 2 0

abbrev pub sizes : List Entry → ℕ
sizes [] = 0
sizes (e ∷ es) = entry_size e + sizes es

-- 18 bytes a line, and the entries.
unfoldable pub table_size : Table → ℕ
table_size r = 18 * lines_for r.count + sizes (take r.count r.entries)
