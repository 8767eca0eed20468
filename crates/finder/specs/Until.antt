-- For the slice finder's private functions alone: what is held, told by the place that a line must end before.
use Rattle.std.specs.Prelude.{ℕ, ◌-◌, cond, leb, eqb}

-- How many bytes are held at place i, where a line that has begun can end only before the place u: a `$` at place p gives u = p + 82.
unfoldable pub held_in : ℕ → ℕ → ℕ
held_in u i = cond (leb u i) 0 (82 - (u - i))

-- The line that the byte b at place i ends, by its length without that byte; and where a line can end before, after that byte.
abbrev pub ended_in : ℕ → ℕ → ℕ → ℕ
ended_in u i b = cond (eqb b 10) (held_in u i) 0

abbrev pub reach_of : ℕ → ℕ → ℕ → ℕ
reach_of u v b = cond (eqb b 36) v u
