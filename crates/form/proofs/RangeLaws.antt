-- A number in its range, from both sides: the test of the range says all.
use Prim.Native.Nat.{◌<◌, ◌≤◌, ℕ}
use Rattle.std.specs.Prelude.{None, Option, Some}
use Rattle.digits.proofs.Options.{some-injective}
use mathlib.Core.Path.{◌≡◌, refl}
use lib.Dec.{leb}
use borrow.Author.Tests.{le-leb, leb-true, lt-leb}
use Rattle.digits.proofs.Bools.{and_left, and_right}
use Rattle.digits.proofs.Options.{nothing, through}
use Rattle.form.specs.Got.{within_of}

module _ (lo hi v : ℕ) where
  -- A number in its range is let through.
  pub within-yes : lo ≤ v → v ≤ hi → within_of lo hi (Some v) ≡ Some v
  unfolding within_of
  within-yes h k = rw (le-leb _ _ h, le-leb _ _ k)

  -- A number past it is not.
  pub within-past : lo ≤ v → hi < v → within_of lo hi (Some v) ≡ None
  unfolding within_of
  within-past h k = rw (le-leb _ _ h, lt-leb _ _ k)

-- No number is in no range.
pub within_none : (lo hi : ℕ) → within_of lo hi None ≡ None
unfolding within_of
within_none lo hi = refl

-- What is within a range was read, and is in it.
pub within-range : (lo hi : ℕ) (o : Option ℕ) (v : ℕ) → within_of lo hi o ≡ Some v → (o ≡ Some v) × (lo ≤ v) × (v ≤ hi)
unfolding within_of
within-range lo hi None v e = nothing v e
within-range lo hi (Some x) v e =
    let t = through _ _ _ e in
    let p : x ≡ v = some-injective x v t.1 in
    (t.1, rw p at (leb-true lo x (and_left _ _ t.0)), rw p at (leb-true x hi (and_right (leb lo x) _ t.0)))
