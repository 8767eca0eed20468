-- Fields stand between commas. A trailing comma makes one more, empty field. The first field of a body is its address.
use Rattle.std.specs.Prelude.{ℕ, zero, suc, ◌+◌, List, [], ◌∷◌, ◌++◌, cond, length, eqb}

-- A byte in front of the first of some fields.
unfoldable pub onto : ℕ → List (List ℕ) → List (List ℕ)
onto b [] = (b ∷ []) ∷ []
onto b (f ∷ fs) = (b ∷ f) ∷ fs

unfoldable pub fields_of : List ℕ → List (List ℕ)
fields_of [] = [] ∷ []
fields_of (b ∷ s) = cond (eqb b 44) ([] ∷ fields_of s) (onto b (fields_of s))

-- A field and those after it, with a comma between each two.
unfoldable pub join_fields : List ℕ → List (List ℕ) → List ℕ
join_fields f [] = f
join_fields f (g ∷ fs) = f ++ (44 ∷ join_fields g fs)

-- How many bytes stand before field k, counted from 0, commas included.
unfoldable pub start_of : ℕ → List (List ℕ) → ℕ
start_of zero fs = 0
start_of (suc k) [] = 0
start_of (suc k) (f ∷ fs) = length f + 1 + start_of k fs
