-- What a host is told of a line beside the numbers of its record: 0 and the kind; or a refusal with its field, the kind 0; or 8, where the
-- numbers have no room. And the numbers that it lent, after it.
use Rattle.std.specs.Prelude.{ℕ, ◌≡◌, List, leb, ℤ, length}
use Rattle.digits.specs.Pick.{pick}
use Rattle.numbers.specs.Numbers.{laid}
use Rattle.numbers.specs.declared.Told.{Told}

abbrev pub told : ℕ → ℕ → ℕ → Told
told n kind field = record { no = n; kind = kind; field = field }

abbrev pub Answer : Type 0
Answer = Told × List ℤ

-- A refusal leaves the numbers; those of a record of a kind are laid where there is room.
abbrev pub refuses : List ℤ → ℕ → ℕ → Answer
refuses out n field = (told n 0 field, out)

unfoldable pub gives : List ℤ → ℕ → List ℤ → Answer
gives out kind values = (pick (leb (length values) (length out)) (told 0 kind 0) (told 8 0 0), laid values out)

abbrev pub Tells : Answer → Told → List ℤ → Type 0
Tells answer t left = (t ≡ answer.0) × (left ≡ answer.1)
