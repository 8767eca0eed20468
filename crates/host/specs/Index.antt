-- An entry of an index by its three numbers.
use Rattle.std.specs.Prelude.{ℕ}
use Rattle.index.specs.declared.Entry.{Entry}

abbrev pub entry_with : ℕ → ℕ → ℕ → Entry
entry_with number offset size = record { number = number; offset = offset; length = size }
