-- Lines taken in order by a rule: for a state, the line's number and the line, the next state or a refusal with its number and field.
use Rattle.std.specs.Prelude.{ℕ, ◌+◌, List, [], ◌∷◌}
use Rattle.lines.specs.Cut.{cut_lines}

pub data Step (S : Type 0) : Type 0 where
  next : S → Step S
  stop : ℕ → ℕ → Step S

-- `refused` makes an answer of number, line and field
abbrev pub onward : {S A : Type 0} → (ℕ → ℕ → ℕ → A) → Step S → ℕ → (S → A) → A
onward refused (next r) k go = go r
onward refused (stop n f) k go = refused n k f

-- `finish` is the answer where the lines end: at a state, before line k
unfoldable pub read_from : {S A : Type 0} → (ℕ → ℕ → ℕ → A) → (S → ℕ → List ℕ → Step S) → (S → ℕ → A) → S → ℕ → List (List ℕ) → A
read_from refused rule finish q k [] = finish q k
read_from refused rule finish q k (l ∷ ls) = onward refused (rule q k l) k (λ r. read_from refused rule finish r (k + 1) ls)

unfoldable pub read_lines : {S A : Type 0} → (ℕ → ℕ → ℕ → A) → (S → ℕ → List ℕ → Step S) → (S → ℕ → A) → S → List ℕ → A
read_lines refused rule finish q g = read_from refused rule finish q 1 (cut_lines g)
