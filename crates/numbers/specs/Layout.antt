-- How a value stands in numbers: how many it has, which they are, the value that numbers hold from a place on, and whether 32 bits hold
-- it. One number a value, and a mark before a value that may be missing (docs/LAYOUT.md). A kind of record is one layout, put together of
-- these.
use Rattle.std.specs.Prelude.{◌+◌, suc, zero, ℕ, ◌&&◌, Bool, true, [], ◌∷◌, List, eqb, leb, ltb, pos, ℤ, get_or, length}
use Rattle.std.specs.Int.Signed.{mag}
use Rattle.address.specs.declared.Talker.{Talker}
use Rattle.digits.specs.Pick.{pick}
use Rattle.numbers.specs.Numbers.{is_mark, is_there, mark_of, most, signed_of, talker_number, talker_of, whole_of}

-- The numbers are followed by those after them.
pub record Layout (X : Type 0) : Type 0 where
  pub size : ℕ
  pub numbers : X → List ℤ → List ℤ
  pub at : List ℤ → ℕ → X
  pub held : X → Bool

-- The number in a place; one past the end is taken as 0.
abbrev pub number_at : List ℤ → ℕ → ℤ
number_at l p = get_or l p (pos 0)

-- No number; a value without sign; one with a sign.
abbrev pub nothing : Layout (Unit {0})
nothing = record { size = 0; numbers = λ v rest. rest; at = λ l p. tt; held = λ v. true }

abbrev pub whole : Layout ℕ
whole = record { size = 1; numbers = λ n rest. pos n ∷ rest; at = λ l p. whole_of (number_at l p); held = λ n. leb n most }

abbrev pub signed : Layout ℤ
signed = record { size = 1; numbers = λ z rest. z ∷ rest; at = λ l p. signed_of (number_at l p); held = λ z. ltb (mag z) 2147483648 }

-- One layout, then another.
infixr 30 ◌then◌
abbrev pub ◌then◌ : {X Y : Type 0} → Layout X → Layout Y → Layout (X × Y)
◌then◌ a b =
    record {
      size = a.size + b.size;
      numbers = λ v rest. a.numbers v.0 (b.numbers v.1 rest);
      at = λ l p. (a.at l p, b.at l (p + a.size));
      held = λ v. a.held v.0 && b.held v.1;
    }

-- The same as a record.
abbrev pub shaped : {X R : Type 0} → (X → R) → (R → X) → Layout X → Layout R
shaped to from a =
    record { size = a.size; numbers = λ r. a.numbers (from r); at = λ l p. to (a.at l p); held = λ r. a.held (from r) }

-- A value that may be missing, behind its mark. Where the number is no mark the value is missing, and `spoilt`, which is not zero.
abbrev pub marked : {X : Type 0} → X → Layout X → Layout (Bool × X)
marked spoilt a =
    record {
      size = 1 + a.size;
      numbers = λ v rest. pos (mark_of v.0) ∷ a.numbers v.1 rest;
      at = λ l p. (is_there (number_at l p), pick (is_mark (number_at l p)) (a.at l (p + 1)) spoilt);
      held = λ v. a.held v.1;
    }

-- The values of a list one after another, k of them from a place on, and the k that a list has from its i-th on.
abbrev pub list_numbers : {X : Type 0} → Layout X → List X → List ℤ → List ℤ
list_numbers a [] rest = rest
list_numbers a (v ∷ vs) rest = a.numbers v (list_numbers a vs rest)

abbrev pub list_at : {X : Type 0} → Layout X → List ℤ → ℕ → ℕ → List X
list_at a l p zero = []
list_at a l p (suc k) = a.at l p ∷ list_at a l (p + a.size) k

abbrev pub list_held : {X : Type 0} → Layout X → List X → Bool
list_held a [] = true
list_held a (v ∷ vs) = a.held v && list_held a vs

abbrev pub sizes : ℕ → ℕ → ℕ
sizes w zero = 0
sizes w (suc k) = w + sizes w k

abbrev pub from : {X : Type 0} → X → List X → ℕ → ℕ → List X
from none vs i zero = []
from none vs i (suc k) = get_or vs i none ∷ from none vs (i + 1) k

-- An array of k.
abbrev pub several : {X : Type 0} → ℕ → X → Layout X → Layout (List X)
several k none a =
    record {
      size = sizes a.size k;
      numbers = λ vs. list_numbers a (from none vs 0 k);
      at = λ l p. list_at a l p k;
      held = λ vs. eqb (length vs) k && list_held a vs;
    }

-- A talker, by its number; callers refuse a number that is no talker's.
abbrev pub talker_layout : Layout Talker
talker_layout = shaped talker_of talker_number whole

-- A record of a talker, with the talker's number first; the numbers of one, and those of a record of the maker.
abbrev pub standard : {R : Type 0} → Layout R → Layout (Talker × R)
standard a = talker_layout then a

unfoldable pub standard_numbers : {R : Type 0} → Layout R → Talker → R → List ℤ
standard_numbers a t r = (standard a).numbers (t, r) []

unfoldable pub maker_numbers : {R : Type 0} → Layout R → R → List ℤ
maker_numbers a r = a.numbers r []
