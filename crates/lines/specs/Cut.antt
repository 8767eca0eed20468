-- Bytes are cut after each LF; a rest after the last LF is a line too, and no bytes at all count as one empty line.
use Rattle.std.specs.Prelude.{ℕ, suc, List, [], ◌∷◌, ◌++◌, cond, eqb}

-- A byte in front of the first of some lines.
unfoldable pub before : ℕ → List (List ℕ) → List (List ℕ)
before b [] = (b ∷ []) ∷ []
before b (l ∷ ls) = (b ∷ l) ∷ ls

unfoldable pub cut_rest : List ℕ → List (List ℕ)
cut_rest [] = []
cut_rest (b ∷ s) = cond (eqb b 10) ((b ∷ []) ∷ cut_rest s) (before b (cut_rest s))

unfoldable pub cut_lines : List ℕ → List (List ℕ)
cut_lines [] = [] ∷ []
cut_lines (b ∷ s) = cut_rest (b ∷ s)

-- How many bytes the first line has: up to and with the first LF, or all.
unfoldable pub line_width : List ℕ → ℕ
line_width [] = 0
line_width (b ∷ s) = cond (eqb b 10) 1 (suc (line_width s))

-- Lines one after another.
abbrev pub joined : List (List ℕ) → List ℕ
joined [] = []
joined (l ∷ ls) = l ++ joined ls
