-- What a row means for a sentence: read, in range, written. A is what the reader answers: with a refusal's number and field, or a record.
use Rattle.std.specs.Prelude.{ℕ, [], List, eqb}
use Rattle.digits.specs.Pick.{pick}
use Rattle.form.specs.Row.{Row}

-- 5 at the first wrong field of what was read, or its record.
unfoldable pub answer_by : {A G R : Type 0} → (ℕ → ℕ → A) → Row G R → (R → A) → G → A
answer_by refuse row make g = pick (eqb (row.wrong g 0 0) 0) (make (row.value g)) (refuse 5 (row.wrong g 0 0))

-- 4 where there are not so many fields as the row has, else by what they read as.
unfoldable pub read_by : {A G R : Type 0} → (ℕ → ℕ → A) → Row G R → (R → A) → ℕ → (ℕ → List ℕ) → A
read_by refuse row make n field = pick (eqb n row.width) (answer_by refuse row make (row.got field 0)) (refuse 4 0)

-- The field of the first value outside its range, or 0; and the fields.
unfoldable pub fault_by : {G R : Type 0} → Row G R → R → ℕ
fault_by row r = row.fault r 0 0

unfoldable pub fields_for : {G R : Type 0} → Row G R → R → List (List ℕ)
fields_for row r = row.text r []
