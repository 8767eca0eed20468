-- A table says the rows of a kind: each is a name, `%` and the letter of a form in the place of the value, the unit, and LF. The rows are
-- put for numbers in the same order; the unit of a value that was not sent is passed over.
use Rattle.std.specs.Prelude.{ℕ, List, [], ◌∷◌, ◌++◌, Bool, cond, ◌&&◌, ◌||◌, not, eqb, ℤ, drop}
use Rattle.words.specs.Forms.{taken_by, is_sent, value_text}
use Rattle.words.specs.declared.table.Mode.{Mode}
use Rattle.words.specs.declared.table.Mode.TheVariants as S

-- The number of a state.
abbrev pub number : Mode → ℕ
number S.Name = 0
number S.Form = 1
number S.Passed = 2

-- A byte b of a table is met in one of three states q: 0 in a name or a unit, 1 at a form, 2 in a unit that is passed over. Whether it
-- puts nothing, the text that it puts, the state that it leaves, and how many numbers it takes.
unfoldable pub is_silent : ℕ → ℕ → Bool
is_silent q b = eqb b 37 || (eqb q 2 && not (eqb b 10))

unfoldable pub step_text : ℕ → ℕ → List ℤ → List ℕ
step_text q b ns = cond (eqb q 1) (value_text b ns) (cond (is_silent q b) [] (b ∷ []))

unfoldable pub step_state : ℕ → ℕ → List ℤ → ℕ
step_state q b ns = cond (eqb q 1) (cond (is_sent b ns) 0 2) (cond (eqb b 37) 1 (cond (is_silent q b) 2 0))

unfoldable pub step_taken : ℕ → ℕ → ℕ
step_taken q b = cond (eqb q 1) (taken_by b) 0

unfoldable pub filled : ℕ → List ℕ → List ℤ → List ℕ
filled q [] ns = []
filled q (b ∷ table) ns = step_text q b ns ++ filled (step_state q b ns) table (drop (step_taken q b) ns)
