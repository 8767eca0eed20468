-- How the values of a row are written, by the letter of their form. A small letter is a value that may be missing, so that a mark stands
-- before its numbers; the capital is the same value where it is always there.
use Rattle.std.specs.Prelude.{ℕ, ◌+◌, List, Bool, cond, ◌||◌, ltb, ℤ, drop}
use Rattle.digits.specs.Ascii.{ascii}
use Rattle.digits.specs.Decimal.{find_in}
use Rattle.numbers.specs.Numbers.{is_there}
use Rattle.numbers.specs.Layout.{number_at, whole}
use Rattle.phrases.specs.Phrases.{is, measure_text}
use Rattle.words.specs.Codes.{code_text}

-- Values that the crate phrases writes, and masks, letters and digits.
unfoldable pub form_text : ℕ → List ℤ → List ℕ
form_text f ns = cond (ltb (find_in f (ascii "nktdphvz")) 8) (measure_text f ns) (code_text f (whole.at ns 0))

-- How many marks stand before the numbers of a value, and how many numbers it takes with its mark.
unfoldable pub marks_of : ℕ → ℕ
marks_of f = cond (ltb f 97) 0 1

unfoldable pub small_of : ℕ → ℕ
small_of f = cond (ltb f 97) (f + 32) f

unfoldable pub taken_by : ℕ → ℕ
taken_by f = marks_of f + cond (is "d" (small_of f)) 3 (cond (is "p" (small_of f)) 2 1)

unfoldable pub is_sent : ℕ → List ℤ → Bool
is_sent f ns = ltb f 97 || is_there (number_at ns 0)

-- The value that stands first in the numbers, behind its mark.
unfoldable pub value_text : ℕ → List ℤ → List ℕ
value_text f ns =
    cond (is_sent f ns)
    (form_text (small_of f) (drop (marks_of f) ns))
    (ascii "not sent")
