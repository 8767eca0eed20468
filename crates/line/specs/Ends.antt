-- Where the fields of a body end, as one pass over it finds them.
use Rattle.std.specs.Prelude.{ℕ, ◌+◌, List, [], ◌∷◌, cond, eqb, length}
use Rattle.line.specs.declared.Passed.{Passed}
use Rattle.line.specs.Line.{body_of, edge_form, line_refusal}

-- The ends of the fields of s, whose first byte has place i.
unfoldable pub ends_from : ℕ → List ℕ → List ℕ
ends_from i [] = i ∷ []
ends_from i (b ∷ s) = cond (eqb b 44) (i ∷ ends_from (i + 1) s) (ends_from (i + 1) s)

-- Those of the body of a line; none of what has not the edges of a line.
unfoldable pub ends_in : List ℕ → List ℕ
ends_in l = cond (edge_form l) (ends_from 0 (body_of l)) []

-- What one pass over a line finds.
abbrev pub passing : List ℕ → Passed
passing l = record { no = line_refusal l; count = length (ends_in l) }
