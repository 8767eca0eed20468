-- Decimal digits: their value, and a value printed in a fixed width.
use Rattle.std.specs.Prelude.{ℕ, zero, suc, ◌+◌, ◌-◌, ◌*◌, ◌/◌, ◌%◌, List, [], ◌∷◌, ◌++◌, Bool, cond, ◌&&◌, leb, eqb, length}
use Rattle.std.specs.Prelude.{Option, None, Some}

unfoldable pub is_digit : ℕ → Bool
is_digit b = leb 48 b && leb b 57

-- The value of the digits s after digits of the value n; none where a byte is no digit.
unfoldable pub digits_from : ℕ → List ℕ → Option ℕ
digits_from n [] = Some n
digits_from n (b ∷ s) = cond (is_digit b) (digits_from (n * 10 + (b - 48)) s) None

-- The value of lo to hi digits, and of no more than nine.
unfoldable pub digits_of : ℕ → ℕ → List ℕ → Option ℕ
digits_of lo hi s = cond (leb lo (length s) && (leb (length s) hi && leb (length s) 9)) (digits_from 0 s) None

-- n in w digits.
unfoldable pub print_fixed : ℕ → ℕ → List ℕ
print_fixed zero n = []
print_fixed (suc w) n = print_fixed w (n / 10) ++ ((48 + n % 10) ∷ [])

-- How many bytes of s stand before the first b, or all.
unfoldable pub find_in : ℕ → List ℕ → ℕ
find_in b [] = 0
find_in b (x ∷ s) = cond (eqb x b) 0 (find_in b s + 1)
