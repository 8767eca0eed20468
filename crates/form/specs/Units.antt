-- The letter of a unit, and fields that stay empty.
use Rattle.std.specs.Prelude.{ℕ, ◌&&◌, ◌||◌, Bool, cond, not, [], ◌∷◌, List, eqb, get_or, length}
use Prim.Native.String.{String}
use Rattle.digits.specs.Ascii.{ascii}
use Rattle.digits.specs.Same.{same}

-- The letter of a unit, as its byte.
abbrev pub unit : String → ℕ
unit s = get_or (ascii s) 0 0

-- Whether a unit is wrong, as 0 or 1: it is the letter b, or empty where its value is not there.
unfoldable pub unit_wrong : List ℕ → Bool → ℕ → ℕ
unit_wrong u there b = cond (same u (b ∷ []) || (not there && eqb (length u) 0)) 0 1

-- Whether a field that stays empty is wrong.
unfoldable pub empty_wrong : List ℕ → ℕ
empty_wrong f = cond (eqb (length f) 0) 0 1
