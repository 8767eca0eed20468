-- Texts in one text, with a byte between each two that divides them.
use Rattle.std.specs.Prelude.{ℕ, zero, suc, List, [], ◌∷◌, cond, eqb, take}
use Rattle.digits.specs.Decimal.{find_in}

-- What stands behind the nth byte d.
unfoldable pub behind : ℕ → ℕ → List ℕ → List ℕ
behind d zero s = s
behind d (suc n) [] = []
behind d (suc n) (b ∷ s) = cond (eqb b d) (behind d n s) (behind d (suc n) s)

-- Text n, counted from 0; nothing where there are not so many.
unfoldable pub nth : ℕ → ℕ → List ℕ → List ℕ
nth d n s = take (find_in d (behind d n s)) (behind d n s)
