-- What a host is answered. A number that is lent for an answer is set where nothing was refused, and left where something was; the places
-- of the refusal, its number, line and field, are always set.
use Rattle.std.specs.Prelude.{ℕ, ◌||◌, cond, eqb}

abbrev pub set_at : ℕ → ℕ → ℕ → ℕ
set_at n value before = cond (eqb n 0) value before

-- The line of a refusal of a single line that was read: 1; 0 where nothing was refused, and for 8, which is about the lent numbers.
abbrev pub single_line : ℕ → ℕ
single_line n = cond (eqb n 0 || eqb n 8) 0 1
