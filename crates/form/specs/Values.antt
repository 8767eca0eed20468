-- The value of a record that a form read; whether it is in its range, 0 where it is good, else which of its fields is wrong, counted from
-- 1; and the text of its field. A value marked missing is held as zero, else it is wrong; its field is empty.
use Rattle.std.specs.Prelude.{ℕ, ◌&&◌, Bool, cond, false, not, true, [], ◌∷◌, List, eqb, leb, nat_abs, ℤ}
use Rattle.form.specs.declared.Maybe.{Maybe}
use Rattle.form.specs.declared.got.Got.{Got}
use Rattle.form.specs.declared.got.GotInt.{GotInt}

abbrev pub kept_of : Got → Maybe
kept_of g = record { there = g.there; value = g.value }

-- A value that is kept only where `there` says so, else missing.
abbrev pub kept_if : Bool → Got → Maybe
kept_if true g = kept_of g
kept_if false g = record { there = false; value = 0 }

-- Which field is wrong of a form that may be empty only where it is not needed.
abbrev pub needed_wrong : Bool → Got → ℕ
needed_wrong needed g = cond (eqb g.wrong 0) (cond (needed && not g.there) 1 0) g.wrong

abbrev pub needed_int : Bool → GotInt → ℕ
needed_int needed g = cond (eqb g.wrong 0) (cond (needed && not g.there) 1 0) g.wrong

-- A value from lo to hi.
unfoldable pub outside : ℕ → ℕ → ℕ → ℕ
outside lo hi v = cond (leb lo v && leb v hi) 0 1

-- The same of a value that may be missing.
unfoldable pub range_wrong : ℕ → ℕ → Bool → ℕ → ℕ
range_wrong lo hi there v = cond there (outside lo hi v) (outside 0 0 v)

-- A signed value up to hi either way.
unfoldable pub signed_wrong : ℕ → Bool → ℤ → ℕ
signed_wrong hi there z = range_wrong 0 hi there (nat_abs z)

-- A value that is there exactly where another is.
unfoldable pub alike_wrong : Bool → Bool → ℕ → ℕ
alike_wrong true true w = w
alike_wrong false false w = w
alike_wrong true false w = 1
alike_wrong false true w = 1

abbrev pub if_there : Bool → List ℕ → List ℕ
if_there true text = text
if_there false text = []

-- A value that may be missing, by the text of the value.
abbrev pub maybe_text : (ℕ → List ℕ) → Maybe → List ℕ
maybe_text text m = if_there m.there (text m.value)

-- A unit's letter, empty when its value is missing.
abbrev pub unit_field : Bool → ℕ → List ℕ
unit_field there b = if_there there (b ∷ [])

abbrev pub no_maybe : Maybe
no_maybe = record { there = false; value = 0 }

-- Missing, and held as zero.
abbrev pub is_missing : Maybe → Bool
is_missing m = not m.there && eqb m.value 0
