-- A row of the listing in words: the place of its line in the log, by the bytes before it and the number of its row in the file, then its
-- row; behind that of a refused line a row that says why, four blanks in.
use Rattle.std.specs.Prelude.{ℕ, List, [], ◌∷◌, ◌++◌, cond, false, eqb}
use Rattle.digits.specs.Ascii.{ascii}
use Rattle.numbers.specs.declared.Told.{Told}
use Rattle.sentence.specs.Lines.{refusal_of}
use Rattle.sentence.specs.Sentence.{Sentence}
use Rattle.text.specs.Numbers.{decimal_text}
use Rattle.rows.specs.Row.{row_text, told_row}
use Rattle.reasons.specs.Reasons.{reason_text}

abbrev pub place_text : ℕ → ℕ → List ℕ
place_text offset row = decimal_text offset ++ (32 ∷ decimal_text row) ++ (32 ∷ [])

unfoldable pub reason_row : List ℕ → ℕ → ℕ → List ℕ
reason_row line n field = cond (eqb n 0) [] (ascii "    " ++ reason_text line n field ++ (10 ∷ []))

-- By what is told of the line, and by what it came to.
abbrev pub told_worded : ℕ → ℕ → ℕ → List ℕ → Told → List ℕ
told_worded offset row number line t =
    place_text offset row ++ told_row number line t [] false ++ reason_row line t.no t.field

abbrev pub worded_text : ℕ → ℕ → ℕ → List ℕ → Sentence → List ℕ
worded_text offset row number line s =
    place_text offset row ++ row_text number line s false ++ reason_row line (refusal_of s).no (refusal_of s).field
