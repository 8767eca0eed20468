-- What a host is told of a line beside the numbers of its record: 0 and the kind; or the refusal of the line with its field; or 8, where
-- the numbers have no room. The kind is 0 where it is not read.
use Rattle.std.specs.Prelude.{ℕ, Bool, List, eqb, leb, ℤ, length}
use Rattle.digits.specs.Pick.{pick}
use Rattle.numbers.specs.Numbers.{laid}
use Rattle.numbers.specs.Told.{Answer, told}
use Rattle.numbers.specs.declared.Told.{Told}
use Rattle.sentence.specs.Lines.{Refusal, refusal_of}
use Rattle.sentence.specs.Numbers.{kind_of, numbers_of}
use Rattle.sentence.specs.Sentence.{Sentence}

unfoldable pub told_of : Refusal → Bool → ℕ → Told
told_of refusal room kind = pick (eqb refusal.no 0) (pick room (told 0 kind 0) (told 8 0 0)) (told refusal.no 0 refusal.field)

-- The same of a line that came to s, for a host that lends these numbers; and the numbers after it.
abbrev pub told_for : Sentence → List ℤ → Told
told_for s numbers = told_of (refusal_of s) (leb (length (numbers_of s)) (length numbers)) (kind_of s)

abbrev pub laid_for : Sentence → List ℤ → List ℤ
laid_for s numbers = laid (numbers_of s) numbers

abbrev pub handed : Sentence → List ℤ → Answer
handed s numbers = (told_for s numbers, laid_for s numbers)
