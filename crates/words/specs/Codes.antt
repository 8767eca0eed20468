-- Masks, and letters and digits with what they mean.
use Rattle.std.specs.Prelude.{◌%◌, ◌+◌, ℕ, [], ◌++◌, ◌∷◌, List, cond, eqb, ltb}
use Rattle.digits.specs.Ascii.{ascii}
use Rattle.digits.specs.Decimal.{find_in}
use Rattle.form_letter.specs.Letters.{modes, selections, statuses}
use Rattle.form_mask.specs.Masks.{print_hex}
use Rattle.phrases.specs.Phrases.{is}
use Rattle.words.specs.Nth.{nth}

-- A digit or a letter as a record holds it, by its value or its byte, as it stands in a line.
unfoldable pub byte_of : ℕ → ℕ
byte_of v = cond (ltb v 10) (v + 48) (v % 256)

-- `A autonomous`: a digit or letter and what it means, by the letters and their meanings in the same order; one without a meaning stands
-- alone.
unfoldable pub meant_words : List ℕ → List ℕ → ℕ → List ℕ
meant_words letters meanings v = (byte_of v ∷ []) ++ nth 44 (find_in (byte_of v) letters) meanings

-- How many hex digits a mask has: of a port, of GLONASS and of GPS satellites; no other form has any.
unfoldable pub width_of : ℕ → ℕ
width_of f = cond (is "x" f) 4 (cond (is "r" f) 6 (cond (is "g" f) 8 0))

-- Status, mode, selection, quality and fix: their letters, and what each means, in the order of `smaqf`.
abbrev pub letter_sets : List ℕ
letter_sets = ascii statuses ++ ascii ";" ++ ascii modes ++ ascii ";" ++ ascii selections ++ ascii ";012345678;0123"

abbrev pub meaning_sets : List ℕ
meaning_sets =
    ascii " valid, not valid; autonomous, differential, estimated, manual, simulator, not valid; manual, automatic"
    ++ ascii "; no fix, standard fix, differential fix, precise fix, real-time kinematic fix, floating kinematic fix"
    ++ ascii ", estimated, manual, simulator;, no fix, two dimensions, three dimensions"

unfoldable pub code_text : ℕ → ℕ → List ℕ
code_text f v =
    cond (eqb (width_of f) 0)
    (meant_words (nth 59 (find_in f (ascii "smaqf")) letter_sets) (nth 59 (find_in f (ascii "smaqf")) meaning_sets) v)
    (print_hex (width_of f) v)
