-- Numbers and rows as a person writes them.
use Rattle.std.specs.Prelude.{◌+◌, ◌-◌, ℕ, ◌&&◌, ◌||◌, Bool, cond, false, not, true, [], ◌∷◌, List, eqb, leb, ltb, drop, get_or, length, take}
use Rattle.std.specs.Prelude.{None, Option, Some}
use Rattle.digits.specs.Decimal.{digits_from}
use Rattle.index_sevens.specs.Sevens.{most}
use Rattle.exhibits_lists.specs.declared.Asked.{Asked}
use Rattle.exhibits_lists.specs.declared.Asked.TheVariants as A
use Rattle.exhibits_lists.specs.declared.Row.{Row}
use Rattle.exhibits_lists.specs.declared.Row.TheVariants as R

-- A zero before other digits.
unfoldable pub is_padded : List ℕ → Bool
is_padded s = leb 2 (length s) && eqb (get_or s 0 0) 48

abbrev pub up_to : Option ℕ → Option ℕ
up_to (Some v) = cond (leb v most) (Some v) None
up_to None = None

-- 1 to 10 decimal digits, no needless zero, at most 4294967295.
unfoldable pub number_of : List ℕ → Option ℕ
number_of s = cond (leb 1 (length s) && (leb (length s) 10 && not (is_padded s))) (up_to (digits_from 0 s)) None

-- A blank or a tab.
unfoldable pub is_blank : ℕ → Bool
is_blank b = eqb b 32 || eqb b 9

-- How many blanks stand at the start, and how many other bytes.
unfoldable pub blanks : List ℕ → ℕ
blanks [] = 0
blanks (b ∷ s) = cond (is_blank b) (blanks s + 1) 0

unfoldable pub width : List ℕ → ℕ
width [] = 0
width (b ∷ s) = cond (is_blank b) 0 (width s + 1)

-- The length without the CR at the end.
unfoldable pub body_length : List ℕ → ℕ
body_length s = cond (leb 1 (length s) && eqb (get_or s (length s - 1) 0) 13) (length s - 1) (length s)

abbrev pub body_of : List ℕ → List ℕ
body_of s = take (body_length s) s

abbrev pub pair_of : Option ℕ → Option ℕ → Row
pair_of (Some a) (Some b) = R.Is a b
pair_of (Some a) None = R.Bad
pair_of None q = R.Bad

abbrev pub pick_row : Bool → Row → Row → Row
pick_row true a b = a
pick_row false a b = b

-- From place k on: the first place with no blank; the word at place a; and the place of the next word behind it, or the end.
abbrev pub skip : List ℕ → ℕ → ℕ
skip t k = k + blanks (drop k t)

abbrev pub word_at : List ℕ → ℕ → List ℕ
word_at t a = take (width (drop a t)) (drop a t)

abbrev pub behind : List ℕ → ℕ → ℕ
behind t a = skip t (a + width (drop a t))

-- The words at two places, where no more stands behind the second.
unfoldable pub two_words : List ℕ → ℕ → ℕ → Row
two_words t a c = pick_row (ltb (behind t c) (length t)) R.Bad (pair_of (number_of (word_at t a)) (number_of (word_at t c)))

-- Two numbers divided by blanks, and blanks before and behind them as may be.
unfoldable pub row_of : List ℕ → Row
row_of t = pick_row (leb (length t) (skip t 0)) R.Blank (two_words t (skip t 0) (behind t (skip t 0)))

abbrev pub pick_asked : Bool → Asked → Asked → Asked
pick_asked true a b = a
pick_asked false a b = b

-- Exhibits and lines count from 1, and each comes behind that of the row before.
unfoldable pub follows_of : ℕ → ℕ → ℕ → ℕ → Asked
follows_of before line_before exhibit line =
    pick_asked (eqb exhibit 0) A.NoExhibit
    (pick_asked (eqb line 0) A.NoLine
    (pick_asked (leb exhibit before) (A.ExhibitBehind exhibit)
    (pick_asked (leb line line_before) (A.LineBehind line) (A.Is exhibit line))))

abbrev pub asked_of : ℕ → ℕ → Row → Asked
asked_of before line_before (R.Is exhibit line) = follows_of before line_before exhibit line
asked_of before line_before R.Blank = A.Nothing
asked_of before line_before R.Bad = A.Malformed
