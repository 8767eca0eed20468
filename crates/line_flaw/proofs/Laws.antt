-- Laws of flaws: one for each way out of the code, and that a line has no flaw exactly where it has the form of the line rule.
use Prim.Native.Nat.{ℕ, ◌+◌, ◌≤◌}
use mathlib.Core.Path.{◌∙◌, ◌≡◌, refl, sym}
use mathlib.Core.List.{List, [], ◌∷◌}
use mathlib.Core.Bool.{Bool, true, false, cond, not, ◌&&◌}
use native.Mathlib.Omega.{arith}
use Rattle.std.specs.List.{position_from}
use Rattle.std.proofs.Common.{Some}
use Rattle.std.specs.Option.{MatchOption}
use lib.Dec.{eqb, leb}
use lib.ListN.{length, get_or}
use borrow.Author.Tests.{eq-eqb, ne_eqb, le-leb}
use Rattle.digits.proofs.Bools.{and-true}
use Rattle.digits.specs.Hex.{hex_digit}
use Rattle.digits.specs.Pick.{pick}
use Rattle.line.specs.Line.{body_byte, body_bytes, body_of, edge_form, end_form, end_of, line_form}
use Rattle.line_flaw.specs.Flaw.{end_parts, first_failing, flaw, flaw_of, forbidden, Part}

-- the first forbidden byte of a body, found as a place counted from 0
abbrev pub is_forbidden : ℕ → Bool
is_forbidden b = not (body_byte b)

pub forbidden-at : (i k : ℕ) (s : List ℕ) → MatchOption (position_from is_forbidden k s) (0 ≡ forbidden (k + i) s) (λ j. j + i ≡ forbidden (k + i) s)
unfolding forbidden
forbidden-at i k [] = refl
forbidden-at i k (b ∷ s) = go (body_byte b) (forbidden-at i (k + 1) s)
  where
    next : k + 1 + i ≡ k + i + 1
    next = omega arith

    go : (t : Bool) → MatchOption (position_from is_forbidden (k + 1) s) (0 ≡ forbidden (k + 1 + i) s) (λ j. j + i ≡ forbidden (k + 1 + i) s)
        → MatchOption (cond (not t) (Some k) (position_from is_forbidden (k + 1) s)) (0 ≡ cond t (forbidden (k + i + 1) s) (k + i))
        (λ j. j + i ≡ cond t (forbidden (k + i + 1) s) (k + i))
    go true ih = rw next at ih
    go false ih = refl

-- a line that begins well
pub flaw-end : (l : List ℕ) → 7 ≤ length l → length l ≤ 82 → get_or l 0 0 ≡ 36
    → flaw_of l ≡ first_failing 4 (end_parts (length l) (end_of l) (forbidden 2 (body_of l)))
unfolding flaw_of first_failing
flaw-end l h k d = rw (le-leb 7 (length l) h, le-leb (length l) 82 k, eq-eqb (get_or l 0 0) 36 d)

-- no byte of a body is forbidden exactly where all may stand in it
pub forbidden-none : (i : ℕ) (s : List ℕ) → 1 ≤ i → eqb (forbidden i s) 0 ≡ body_bytes s
unfolding forbidden body_bytes
forbidden-none i [] h = refl
forbidden-none i (b ∷ s) h = go (body_byte b) (forbidden-none (i + 1) s (omega arith))
  where
    go : (t : Bool) → eqb (forbidden (i + 1) s) 0 ≡ body_bytes s → eqb (cond t (forbidden (i + 1) s) i) 0 ≡ (t && body_bytes s)
    go true e = e
    go false e = ne_eqb i 0 (λ x. omega (arith, x))

-- no part fails exactly where each holds
all_hold : List Part → Bool
all_hold [] = true
all_hold (p ∷ ps) = p.holds && all_hold ps

none-fails : (n : ℕ) (ps : List Part) → 1 ≤ n → eqb (first_failing n ps).no 0 ≡ all_hold ps
unfolding first_failing all_hold
none-fails n [] h = refl
none-fails n (p ∷ ps) h = go p.holds (none-fails (n + 1) ps (omega arith))
  where
    go : (t : Bool) → eqb (first_failing (n + 1) ps).no 0 ≡ all_hold ps
        → eqb (pick t (first_failing (n + 1) ps) (flaw n p.at)).no 0 ≡ (t && all_hold ps)
    go true e = e
    go false e = ne_eqb n 0 (λ x. omega (arith, x))

-- the parts in the order of the rule's words
last-false : (a b c d f : Bool) → ((a && (b && (c && (d && false)))) && f) ≡ false
last-false false b c d f = refl
last-false true false c d f = refl
last-false true true false d f = refl
last-false true true true false f = refl
last-false true true true true f = refl

in_order : (star d e cr lf body : Bool)
    → (lf && (cr && (star && (d && (e && (body && true)))))) ≡ ((star && (d && (e && (cr && lf)))) && body)
in_order star d e cr false body = sym (last-false star d e cr body)
in_order star d e false true body = sym (last-false star d e true body)
in_order false d e true true body = refl
in_order true false e true true body = refl
in_order true true false true true body = refl
in_order true true true true true body = and-true body

in-front : (a b c x y : Bool) → (a && (b && (c && (x && y)))) ≡ ((a && (b && (c && x))) && y)
in-front false b c x y = refl
in-front true false c x y = refl
in-front true true false x y = refl
in-front true true true x y = refl

-- A line has no flaw exactly where the line rule holds but for the value of its digits.
pub flaw-none : (l : List ℕ) → eqb (flaw_of l).no 0 ≡ line_form l
unfolding flaw_of line_form edge_form end_form all_hold
flaw-none l =
    none-fails 1 _ (omega arith)
    ∙ (rw (
      forbidden-none 2 (body_of l) (omega arith),
      in_order (eqb (get_or (end_of l) 0 0) 42) (hex_digit (get_or (end_of l) 1 0))
          (hex_digit (get_or (end_of l) 2 0)) (eqb (get_or (end_of l) 3 0) 13) (eqb (get_or (end_of l) 4 0) 10) (body_bytes (body_of l)),
    )
    (in-front (leb 7 (length l)) (leb (length l) 82) (eqb (get_or l 0 0) 36) (end_form (end_of l)) (body_bytes (body_of l))))
