-- Two digits at a place of a field: they are digits of a fixed width, so what holds of those holds of the part that is cut out.
use Prim.Native.Nat.{◌+◌, ◌-◌, ◌<◌, ◌≤◌, ℕ}
use mathlib.Core.List.{◌++◌, List}
use Rattle.std.specs.Prelude.{None, Option, Some}
use mathlib.Core.Path.{◌∙◌, ◌≡◌, sym}
use native.Mathlib.Omega.{arith}
use lib.Dec.{lit≤}
use lib.ListN.{drop, length, length-drop, length-take, take, take-append-drop}
use lib.Seq.{drop-drop}
use borrow.Author.Tests.{lt-leb}
use Rattle.std.proofs.lemmas.List.{take_all}
use Rattle.digits.specs.Decimal.{digits_of, print_fixed}
use Rattle.digits.specs.Pairs.{pair_at}
use Rattle.digits.specs.Sign.{Under}
use Rattle.digits.proofs.DigitSides.{fixed-are}
use Rattle.digits.proofs.SignLaws.{under}

-- Two digits are below 100.
pub pair_lt : (k : ℕ) (f : List ℕ) (o : Option ℕ) → o ≡ pair_at k f → Under 100 o
unfolding pair_at
pair_lt k f o e = under (take 2 (drop k f)) 2 2 100 o (lit≤ tt) e

-- There are no two digits in fewer bytes.
pub pair-short : (k : ℕ) (f : List ℕ) → length f < k + 2 → pair_at k f ≡ None
unfolding pair_at digits_of
pair-short k f h = rw (lt-leb 2 (length (take 2 (drop k f))) (simp (length-take, length-drop) (omega arith)))

-- What stands from there on is those two digits and the rest.
pub pair-cut : (k : ℕ) (f : List ℕ) (v : ℕ) → pair_at k f ≡ Some v → drop k f ≡ print_fixed 2 v ++ drop (k + 2) f
unfolding pair_at
pair-cut k f v e = sym (take-append-drop 2 (drop k f)) ∙ rw ((fixed-are 2 (take 2 (drop k f)) v e).0, drop-drop)

-- The first two bytes of what stands from there on.
pub pair-lent : (k : ℕ) (f r q : List ℕ) → k ≤ length f → r ≡ take (length f - k) (drop k f) → q ≡ take 2 r → take 2 (drop k f) ≡ q
pair-lent k f r q h er eq = rw (eq, er, take_all (length f - k) (drop k f) (omega (arith, length-drop k f)))
