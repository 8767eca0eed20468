-- A row of the listing, by document 01: per found line its number from 1, the address (`-` after refusals 1 to 3), `ok` or the refusal
-- number and field; lines ended by LF.
use Rattle.std.specs.Prelude.{ℕ, Bool, true, false, cond, ◌&&◌, List, [], ◌∷◌, ◌++◌, ltb, eqb, ℤ, length, take, drop}
use Rattle.digits.specs.Ascii.{ascii}
use Rattle.sentence.specs.Lines.{refusal_of}
use Rattle.sentence.specs.Numbers.{count_of, kind_of, numbers_of}
use Rattle.sentence.specs.Sentence.{Sentence}
use Rattle.numbers.specs.declared.Told.{Told}
use Rattle.numbers.specs.Told.{told}
use Rattle.text.specs.Numbers.{decimal_text, int_text, value_text}

-- The five bytes after the `$`; none of a line that is shorter, which is refused with 1.
unfoldable pub five_bytes : List ℕ → List ℕ
five_bytes line = cond (ltb (length line) 6) [] (take 5 (drop 1 line))

-- By the number of the refusal, 0 where there is none.
unfoldable pub address_text : ℕ → List ℕ → List ℕ
address_text n line = cond (ltb 0 n && ltb n 4) (ascii "-") (five_bytes line)

unfoldable pub answer_text : ℕ → ℕ → List ℕ
answer_text n field = cond (eqb n 0) (ascii "ok") (ascii "refused" ++ value_text n ++ value_text field)

-- Numbers, each behind its blank.
unfoldable pub numbers_text : List ℤ → List ℕ
numbers_text [] = []
numbers_text (z ∷ zs) = int_text z ++ numbers_text zs

-- The numbers of a record of a kind, in the order of docs/LAYOUT.md, but for its talker's, which the address shows.
unfoldable pub shown : ℕ → List ℤ → List ℤ
shown kind numbers = drop (cond (ltb kind 8) 1 0) (take (count_of kind) numbers)

abbrev pub asked_text : Bool → ℕ → List ℤ → List ℕ
asked_text true kind numbers = numbers_text (shown kind numbers)
asked_text false kind numbers = []

-- The row of a line by what is told of it, and by the numbers of its record, where they are asked for.
abbrev pub told_row : ℕ → List ℕ → Told → List ℤ → Bool → List ℕ
told_row number line t numbers asked =
    decimal_text number ++ (32 ∷ address_text t.no line) ++ (32 ∷ answer_text t.no t.field)
    ++ asked_text asked t.kind numbers ++ (10 ∷ [])

-- The row of a line that came to a sentence.
abbrev pub row_text : ℕ → List ℕ → Sentence → Bool → List ℕ
row_text number line s asked = told_row number line (told (refusal_of s).no (kind_of s) (refusal_of s).field) (numbers_of s) asked
