-- The places of the fields, found in one pass: where each field ends.
use Rattle.std.specs.Prelude.{ℕ, ◌+◌, ◌-◌, ◌≡◌, List, [], Bool, cond, ◌&&◌, length, get_or, take, drop, ltb, leb, eqb}
use Rattle.std.proofs.lemmas.List.Edits.{sets}
use Rattle.line.specs.Ends.{ends_from}
use Rattle.fields.specs.Fields.{fields_of}

-- What finding the places of s leaves: the number of fields, and in the lent places the ends, one after another from the first
-- on, as far as there is room; the others stay.
pub record Placed (s p : List ℕ) (count : ℕ) (left : List ℕ) : Type 0 where
  pub fields : count ≡ length (fields_of s)
  pub ends : left ≡ sets p 0 (ends_from 0 s)

-- Field k, counted from 0, by the ends p: it starts past the end of the field before it, and its comma.
unfoldable pub start_in : List ℕ → ℕ → ℕ
start_in p k = cond (eqb k 0) 0 (get_or p (k - 1) 0 + 1)

unfoldable pub is_in : List ℕ → ℕ → List ℕ → Bool
is_in p k s = ltb k (length p) && (leb (get_or p k 0) (length s) && leb (start_in p k) (get_or p k 0))

-- Its bytes and its place; no bytes, at place 0, where the ends are no places of s.
unfoldable pub field_in : List ℕ → ℕ → List ℕ → List ℕ
field_in p k s = cond (is_in p k s) (take (get_or p k 0 - start_in p k) (drop (start_in p k) s)) []

unfoldable pub place_in : List ℕ → ℕ → List ℕ → ℕ
place_in p k s = cond (is_in p k s) (start_in p k) 0

-- The fields by their numbers: by the ends p, and as they stand.
abbrev pub fields_by : List ℕ → List ℕ → ℕ → List ℕ
fields_by p s k = field_in p k s

abbrev pub the_fields : List ℕ → ℕ → List ℕ
the_fields s k = get_or (fields_of s) k []
