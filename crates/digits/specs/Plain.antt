-- Numbers without needless zeros.
use Rattle.std.specs.Prelude.{◌%◌, ◌/◌, ℕ, cond, [], ◌++◌, ◌∷◌, List, eqb, ltb}
use Rattle.digits.specs.Decimal.{print_fixed}

-- How many digits a number has; no field holds one of more than six.
unfoldable pub width_of : ℕ → ℕ
width_of n = cond (ltb n 10) 1 (cond (ltb n 100) 2 (cond (ltb n 1000) 3 (cond (ltb n 10000) 4 (cond (ltb n 100000) 5 6))))

unfoldable pub plain_text : ℕ → List ℕ
plain_text n = print_fixed (width_of n) n

-- Thousandths behind a point, without the zeros at their end; none at all where there are no thousandths.
unfoldable pub fraction_text : ℕ → List ℕ
fraction_text m =
    cond (eqb m 0) []
    (46 ∷ cond (eqb (m % 100) 0) (print_fixed 1 (m / 100)) (cond (eqb (m % 10) 0) (print_fixed 2 (m / 10)) (print_fixed 3 m)))

-- A number in thousandths.
unfoldable pub number_text : ℕ → List ℕ
number_text v = plain_text (v / 1000) ++ fraction_text (v % 1000)
