-- One letter of a set: read, in its range, written; the letters of document 01, each set said here once.
use Rattle.std.specs.Prelude.{◌%◌, ℕ, ◌||◌, Bool, cond, false, [], ◌∷◌, List, eqb}
use Prim.Native.String.{String}
use Rattle.std.specs.Prelude.{None, Option, Some}
use Rattle.digits.specs.Ascii.{ascii}
use Rattle.form.specs.Forms.{single}
use Rattle.form.specs.Got.{got_of}
use Rattle.form.specs.Row.{Form}
use Rattle.form.specs.declared.got.Got.{Got}
use Rattle.numbers.specs.Layout.{whole}

-- The letters of a status, of a mode and of a selection.
abbrev pub statuses : String
statuses = "AV"

abbrev pub modes : String
modes = "ADEMSN"

abbrev pub selections : String
selections = "MA"

unfoldable pub is_in : ℕ → List ℕ → Bool
is_in b [] = false
is_in b (c ∷ s) = eqb c b || is_in b s

-- One byte, which is in the set.
unfoldable pub letter_of : List ℕ → List ℕ → Option ℕ
letter_of set [] = None
letter_of set (b ∷ []) = cond (is_in b set) (Some b) None
letter_of set (b ∷ c ∷ f) = None

-- One letter of a set, never empty.
abbrev pub letter_form : List ℕ → List ℕ → Got
letter_form set f = got_of (letter_of set f)

-- Whether a letter that a record holds is outside its set; and its text.
unfoldable pub letter_wrong : List ℕ → ℕ → ℕ
letter_wrong set v = cond (is_in v set) 0 1

abbrev pub letter_field : ℕ → List ℕ
letter_field v = (v % 256) ∷ []

-- One letter of a set, never empty; the letters of a status and of a mode.
abbrev pub letter : String → Form Got ℕ
letter set = single 2 whole (letter_form (ascii set)) (λ g. g.value) (λ v. letter_wrong (ascii set) v) (λ v. letter_field v)

abbrev pub status : Form Got ℕ
status = letter statuses

abbrev pub mode : Form Got ℕ
mode = letter modes
