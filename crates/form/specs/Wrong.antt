-- The first wrong field of a sentence, counted from 1 after the address, or 0.
use Rattle.std.specs.Prelude.{◌+◌, ℕ, cond, [], ◌∷◌, List, eqb}

-- A form that n fields stand before: which of its own fields is wrong, or 0.
pub record After : Type 0 where
  pub before : ℕ
  pub wrong : ℕ

abbrev pub after : ℕ → ℕ → After
after n w = record { before = n; wrong = w }

unfoldable pub near_of : ℕ → ℕ → ℕ → ℕ
near_of n w rest = cond (eqb w 0) rest (n + w)

unfoldable pub first_wrong : List After → ℕ
first_wrong [] = 0
first_wrong (a ∷ l) = near_of a.before a.wrong (first_wrong l)
