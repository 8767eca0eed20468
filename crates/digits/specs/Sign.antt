-- Signs of values.
use Rattle.std.specs.Prelude.{◌<◌, ℕ, Bool, false, true, [], ◌∷◌, List, negsuc, neg_ℤ, pos, ℤ}
use Rattle.std.specs.Prelude.{None, Option, Some}

-- A value, negated or as it is; zero is zero either way.
abbrev pub signed : Bool → ℕ → ℤ
signed true v = neg_ℤ (pos v)
signed false v = pos v

-- What was read, if anything, is below k.
abbrev pub Under : ℕ → Option ℕ → Type 0
Under k (Some v) = v < k
Under k None = Unit {0}

-- The minus of a value that is less than zero; there is none of zero.
abbrev pub sign_text : ℤ → List ℕ
sign_text (pos n) = []
sign_text (negsuc n) = 45 ∷ []
