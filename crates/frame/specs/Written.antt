-- What a writer of one line comes to. In order: 5, where a value is outside its range; 1, where the line would pass 82 bytes; 8, where the
-- output is shorter than the line. A refusal leaves the output; on success the bytes past the written length stay.
use Rattle.std.specs.Prelude.{ℕ, ◌++◌, List, ◌≡◌, eqb, ltb, drop, length}
use Rattle.digits.specs.Pick.{pick}
use Rattle.line.specs.Line.{as_line}
use Rattle.frame.specs.declared.Written.{Written}

abbrev pub refused : ℕ → ℕ → ℕ → Written
refused n line field = record { no = n; line = line; field = field; length = 0 }

abbrev pub wrote : ℕ → Written
wrote n = record { no = 0; line = 0; field = 0; length = n }

-- The line of a body, in an output with so much room; the record is good where its fault has number 0.
unfoldable pub written_of : Written → List ℕ → ℕ → Written
written_of fault body room =
    pick (eqb fault.no 0)
    (pick (ltb 82 (length (as_line body))) (refused 1 1 0)
    (pick (ltb room (length (as_line body))) (refused 8 1 0) (wrote (length (as_line body)))))
    fault

-- The output after it.
unfoldable pub left_of : Written → List ℕ → List ℕ → List ℕ
left_of fault body out = pick (eqb (written_of fault body (length out)).no 0) (as_line body ++ drop (length (as_line body)) out) out

-- Both at once: what a writer answers, and what it leaves.
pub record Writes (fault : Written) (body out : List ℕ) (answer : Written) (left : List ℕ) : Type 0 where
  pub answers : answer ≡ written_of fault body (length out)
  pub leaves : left ≡ left_of fault body out

-- The fault of a record whose first wrong field is w, or 0.
unfoldable pub fault_at : ℕ → Written
fault_at w = pick (eqb w 0) (wrote 0) (refused 5 1 w)
