-- A record without a wrong field has every value in its range.
use mathlib.Core.List.{[], ◌∷◌, List}
use mathlib.Core.Path.{◌≡◌, refl}
use Rattle.form.specs.Wrong.{After, first_wrong, near_of}
use Rattle.form.proofs.Laws.{near-zero}

-- Every value of a list is in range.
abbrev pub Zero : List After → Type 0
Zero [] = Unit {0}
Zero (a ∷ l) = (a.wrong ≡ 0) × Zero l

pub all-zero : (l : List After) → first_wrong l ≡ 0 → Zero l
unfolding first_wrong
all-zero [] e = tt
all-zero (a ∷ l) e = let z = near-zero a.before a.wrong (first_wrong l) e in (z.0, all-zero l z.1)

-- And back: where every value is in range, no field is wrong.
pub zero-all : (l : List After) → Zero l → first_wrong l ≡ 0
unfolding first_wrong near_of
zero-all [] z = refl
zero-all (a ∷ l) z = rw z.0 (zero-all l z.1)
