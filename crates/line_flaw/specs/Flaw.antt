-- The flaw of a line: the first part of the line rule that fails, and the byte at which it fails, counted from 1. The parts are looked at
-- in this order: 1 at least 7 bytes, 2 at most 82 bytes, 3 `$` first, 4 LF last, 5 CR before it, 6 `*` before the last four bytes, 7 and 8
-- a digit 0-9 or A-F, and again, 9 the bytes of the body. A length fails at the last byte that there is, or at the first that is too many;
-- a CR that is not there at the LF.
use Rattle.std.specs.Prelude.{ℕ, ◌+◌, ◌-◌, List, [], ◌∷◌, Bool, cond, eqb, leb, length, get_or}
use Rattle.digits.specs.Hex.{hex_digit}
use Rattle.digits.specs.Pick.{pick}
use Rattle.line.specs.Line.{body_byte, body_of, end_of}
use Rattle.line_flaw.specs.declared.Flaw.{Flaw}

abbrev pub flaw : ℕ → ℕ → Flaw
flaw n i = record { no = n; at = i }

-- A part of the rule: whether it holds, and the byte at which it fails where it does not.
pub record Part : Type 0 where
  pub holds : Bool
  pub at : ℕ

infix 40 ◌else◌
abbrev pub ◌else◌ : Bool → ℕ → Part
holds else at = record { holds = holds; at = at }

-- The first of some parts, numbered from n on, that fails; 0 and 0 where none does.
unfoldable pub first_failing : ℕ → List Part → Flaw
first_failing n [] = flaw 0 0
first_failing n (p ∷ ps) = pick p.holds (first_failing (n + 1) ps) (flaw n p.at)

-- The first byte of s, whose first has place i, that may not stand in a body; 0 where all may.
unfoldable pub forbidden : ℕ → List ℕ → ℕ
forbidden i [] = 0
forbidden i (b ∷ s) = cond (body_byte b) (forbidden (i + 1) s) i

-- The parts of a line of n bytes whose last five are t, with the place of a forbidden byte of its body.
abbrev pub end_parts : ℕ → List ℕ → ℕ → List Part
end_parts n t at =
    (eqb (get_or t 4 0) 10 else n)
    ∷ (eqb (get_or t 3 0) 13 else n)
    ∷ (eqb (get_or t 0 0) 42 else (n - 4))
    ∷ (hex_digit (get_or t 1 0) else (n - 3))
    ∷ (hex_digit (get_or t 2 0) else (n - 2))
    ∷ (eqb at 0 else at)
    ∷ []

unfoldable pub flaw_of : List ℕ → Flaw
flaw_of l =
    first_failing 1 (
    (leb 7 (length l) else length l)
    ∷ (leb (length l) 82 else 83)
    ∷ (eqb (get_or l 0 0) 36 else 1)
    ∷ end_parts (length l) (end_of l) (forbidden 2 (body_of l)))
