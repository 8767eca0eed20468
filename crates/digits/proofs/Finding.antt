-- A search: its place is known by the bytes before it and the one at it; and it ends within the list.
use Prim.Native.Nat.{ℕ, zero, suc, ◌+◌, ◌≤◌, ◌<◌}
use mathlib.Core.Path.{◌≡◌, ap}
use mathlib.Core.List.{List, [], ◌∷◌}
use mathlib.Core.Bool.{Bool, true, false, cond}
use mathlib.Core.Logic.{◌≢◌}
use native.Mathlib.Omega.{arith}
use native.Mathlib.Numerals.{add-one}
use lib.Dec.{eqb}
use lib.ListN.{length, get_or}
use borrow.Author.Tests.{eq-eqb, ne_eqb}
use Rattle.std.specs.List.{AllWithin, HoldsAt}
use Rattle.std.specs.Prelude.{MatchOption, Option, None, Some, unwrap_or}
use Rattle.digits.specs.Decimal.{find_in}

-- The place before which no byte is b, and at which b stands unless it is the end.
find-at : (b : ℕ) (s : List ℕ) (i : ℕ) → ((k : ℕ) → k < i → get_or s k 0 ≢ b) → i ≤ length s → (i < length s → get_or s i 0 ≡ b) → i ≡ find_in b s
unfolding find_in
find-at b [] i none h here = omega arith
find-at b (x ∷ s) zero none h here = rw (eq-eqb x b (here (omega arith)))
find-at b (x ∷ s) (suc i) none h here =
    rw (ne_eqb x b (none 0 (omega arith)), add-one)
    (ap suc (find-at b s i (λ k l. none (suc k) (omega arith)) (omega arith) (λ l. here (omega arith))))

-- What std says of a search.
pub find-first : (b : ℕ) (s : List ℕ) (r : Option ℕ)
    → MatchOption r (AllWithin (λ x. x ≢ b) s 0 (length s)) (λ i. (i < length s) × HoldsAt (λ x. x ≡ b) s i × AllWithin (λ x. x ≢ b) s 0 i)
    → unwrap_or r (length s) ≡ find_in b s
find-first b s None h = find-at b s (length s) (λ k l. h k 0 (omega arith) l) (omega arith) (λ l. absurd (omega arith))
find-first b s (Some i) h = find-at b s i (λ k l. h.2 k 0 (omega arith) l) (omega arith) (λ l. h.1 0)

-- A search ends within the list.
pub find-le : (b : ℕ) (s : List ℕ) → find_in b s ≤ length s
unfolding find_in
find-le b [] = omega arith
find-le b (x ∷ s) = go (eqb x b) (find-le b s)
  where
    go : (t : Bool) → find_in b s ≤ length s → cond t 0 (find_in b s + 1) ≤ suc (length s)
    go true h = omega arith
    go false h = omega arith
