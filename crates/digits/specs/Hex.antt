-- Capital hex digits.
use Rattle.std.specs.Prelude.{ℕ, ◌+◌, ◌-◌, Bool, cond, ◌&&◌, ◌||◌, ltb, leb}

-- 0-9 or A-F
unfoldable pub hex_digit : ℕ → Bool
hex_digit b = (leb 48 b && leb b 57) || (leb 65 b && leb b 70)

-- The digit of a value below 16.
unfoldable pub hex_of : ℕ → ℕ
hex_of n = cond (ltb n 10) (n + 48) (n + 55)

-- The value of a digit: 0 for `0`, 10 for `A`.
unfoldable pub hex_value : ℕ → ℕ
hex_value b = cond (leb b 57) (b - 48) (b - 55)
