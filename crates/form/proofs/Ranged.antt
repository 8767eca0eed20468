-- What was read of a field is in its range; and what is written of it is no longer than the field was.
use Prim.Native.Nat.{◌≤◌, suc, zero, ℕ}
use mathlib.Core.Bool.{Bool, false, true}
use mathlib.Core.List.{[], ◌∷◌, List}
use mathlib.Core.Logic.{◌⊎◌, inl, inr}
use Rattle.std.specs.Prelude.{None, Option, Some}
use mathlib.Core.Path.{◌≡◌, refl}
use native.Mathlib.Omega.{arith}
use lib.Dec.{eqb}
use lib.IntN.{nat_abs, ℤ}
use lib.ListN.{length}
use borrow.Author.Tests.{le-leb}
use Rattle.digits.specs.Pick.{pick}
use Rattle.digits.specs.Sign.{signed}
use Rattle.digits.proofs.Bools.{true-false}
use Rattle.form.specs.Got.{got_int_of, got_of, maybe_int_of, maybe_of, missing, missing_int}
use Rattle.form.specs.Units.{unit_wrong}
use Rattle.form.specs.Values.{if_there, outside, range_wrong, signed_wrong, unit_field}
use Rattle.form.proofs.UnitLaws.{unit-is}
use Rattle.form.proofs.Values.{inside}

-- A missing value is an empty field; one that is there is in its range.
pub ranged : (lo hi : ℕ) (there : Bool) (v n : ℕ) (text : ℕ → List ℕ) → range_wrong lo hi there v ≡ 0 → (v ≤ hi → length (text v) ≤ n)
    → length (if_there there (text v)) ≤ n
unfolding range_wrong
ranged lo hi true v n text e h = h (inside lo hi v e).1
ranged lo hi false v n text e h = omega arith

pub in-outside : (lo hi v : ℕ) → lo ≤ v → v ≤ hi → outside lo hi v ≡ 0
unfolding outside
in-outside lo hi v a b = rw (le-leb lo v a, le-leb v hi b)

pub zero-outside : outside 0 0 0 ≡ 0
unfolding outside
zero-outside = refl

-- A field that may be empty: what it reads where it is not is in a range, and its text is no longer than it.
module _ (form : List ℕ → Option ℕ) (text : ℕ → List ℕ) (lo hi : ℕ) where
  pub maybe-in : ((f : List ℕ) (v : ℕ) → form f ≡ Some v → (lo ≤ v) × (v ≤ hi)) → (f : List ℕ) → (maybe_of f (form f)).wrong ≡ 0
      → range_wrong lo hi (maybe_of f (form f)).there (maybe_of f (form f)).value ≡ 0
  unfolding maybe_of range_wrong
  maybe-in is f e = go (eqb (length f) 0) (form f) refl e
    where
      go : (t : Bool) (o : Option ℕ) → form f ≡ o → (pick t missing (got_of o)).wrong ≡ 0
          → range_wrong lo hi (pick t missing (got_of o)).there (pick t missing (got_of o)).value ≡ 0
      go true o q i = zero-outside
      go false None q i = let z : ⊥ = omega arith in absurd z
      go false (Some v) q i = let r = is f v q in in-outside lo hi v r.0 r.1

  pub maybe-short : ((f : List ℕ) (v : ℕ) → form f ≡ Some v → length (text v) ≤ length f) → (f : List ℕ) → (maybe_of f (form f)).wrong ≡ 0
      → length (if_there (maybe_of f (form f)).there (text (maybe_of f (form f)).value)) ≤ length f
  unfolding maybe_of
  maybe-short is f e = go (eqb (length f) 0) (form f) refl e
    where
      go : (t : Bool) (o : Option ℕ) → form f ≡ o → (pick t missing (got_of o)).wrong ≡ 0
          → length (if_there (pick t missing (got_of o)).there (text (pick t missing (got_of o)).value)) ≤ length f
      go true o q i = omega arith
      go false None q i = let z : ⊥ = omega arith in absurd z
      go false (Some v) q i = is f v q

module _ (form : List ℕ → Option ℤ) (text : ℤ → List ℕ) (hi : ℕ) where
  pub maybe-int-in : ((f : List ℕ) (z : ℤ) → form f ≡ Some z → nat_abs z ≤ hi) → (f : List ℕ) → (maybe_int_of f (form f)).wrong ≡ 0
      → signed_wrong hi (maybe_int_of f (form f)).there (maybe_int_of f (form f)).value ≡ 0
  unfolding maybe_int_of signed_wrong range_wrong
  maybe-int-in is f e = go (eqb (length f) 0) (form f) refl e
    where
      go : (t : Bool) (o : Option ℤ) → form f ≡ o → (pick t missing_int (got_int_of o)).wrong ≡ 0
          → signed_wrong hi (pick t missing_int (got_int_of o)).there (pick t missing_int (got_int_of o)).value ≡ 0
      go true o q i = zero-outside
      go false None q i = let z : ⊥ = omega arith in absurd z
      go false (Some z) q i = in-outside 0 hi (nat_abs z) (omega arith) (is f z q)

  pub maybe-int-short : ((f : List ℕ) (z : ℤ) → form f ≡ Some z → length (text z) ≤ length f) → (f : List ℕ)
      → (maybe_int_of f (form f)).wrong ≡ 0
      → length (if_there (maybe_int_of f (form f)).there (text (maybe_int_of f (form f)).value)) ≤ length f
  unfolding maybe_int_of
  maybe-int-short is f e = go (eqb (length f) 0) (form f) refl e
    where
      go : (t : Bool) (o : Option ℤ) → form f ≡ o → (pick t missing_int (got_int_of o)).wrong ≡ 0
          → length (if_there (pick t missing_int (got_int_of o)).there (text (pick t missing_int (got_int_of o)).value)) ≤ length f
      go true o q i = omega arith
      go false None q i = let z : ⊥ = omega arith in absurd z
      go false (Some z) q i = is f z q

-- A field that is never empty.
module _ (form : List ℕ → Option ℕ) (text : ℕ → List ℕ) (lo hi : ℕ) where
  pub told_in : ((f : List ℕ) (v : ℕ) → form f ≡ Some v → (lo ≤ v) × (v ≤ hi)) → (f : List ℕ) → (got_of (form f)).wrong ≡ 0
      → outside lo hi (got_of (form f)).value ≡ 0
  told_in is f e = go (form f) refl e
    where
      go : (o : Option ℕ) → form f ≡ o → (got_of o).wrong ≡ 0 → outside lo hi (got_of o).value ≡ 0
      go None q i = let z : ⊥ = omega arith in absurd z
      go (Some v) q i = let r = is f v q in in-outside lo hi v r.0 r.1

  pub told-short : ((f : List ℕ) (v : ℕ) → form f ≡ Some v → length (text v) ≤ length f) → (f : List ℕ) → (got_of (form f)).wrong ≡ 0
      → length (text (got_of (form f)).value) ≤ length f
  told-short is f e = go (form f) refl e
    where
      go : (o : Option ℕ) → form f ≡ o → (got_of o).wrong ≡ 0 → length (text (got_of o).value) ≤ length f
      go None q i = let z : ⊥ = omega arith in absurd z
      go (Some v) q i = is f v q

-- Heights: minus zero is written without its minus.
pub signed-size : (v : ℕ) → nat_abs (signed true v) ≡ v
signed-size zero = refl
signed-size (suc v) = refl

-- Letters.
pub unit-short : (u : List ℕ) (there : Bool) (b : ℕ) → unit_wrong u there b ≡ 0 → length (unit_field there b) ≤ length u
unit-short u true b e = go (unit-is u true b e)
  where
    go : (u ≡ b ∷ []) ⊎ ((u ≡ []) × (true ≡ false)) → length (b ∷ []) ≤ length u
    go (inl q) = rw q (omega arith)
    go (inr q) = absurd (true-false refl q.1)
unit-short u false b e = omega arith
