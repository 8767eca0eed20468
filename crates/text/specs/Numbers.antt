-- Numbers as texts: decimal digits without needless zeros.
use Rattle.std.specs.Prelude.{◌%◌, ◌+◌, ◌/◌, suc, zero, ℕ, [], ◌++◌, ◌∷◌, List, cond, ltb, nat_abs, ℤ}
use Rattle.digits.specs.Sign.{sign_text}

-- The digits of a number that has no more than w of them: those before the last, where there are any, and the last.
unfoldable pub digits_within : ℕ → ℕ → List ℕ
digits_within zero n = []
digits_within (suc w) n = cond (ltb n 10) [] (digits_within w (n / 10)) ++ ((48 + n % 10) ∷ [])

-- A number below 10 to the 20th, which no number of 64 bits reaches.
unfoldable pub decimal_text : ℕ → List ℕ
decimal_text n = digits_within 20 n

-- A number of a row behind its blank, and one with its minus where it is less than zero.
abbrev pub value_text : ℕ → List ℕ
value_text n = 32 ∷ decimal_text n

abbrev pub int_text : ℤ → List ℕ
int_text z = 32 ∷ (sign_text z ++ decimal_text (nat_abs z))
