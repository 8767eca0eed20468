-- Bytes that are the same, from both sides, and at a place of both, as a loop meets them.
use Prim.Native.Nat.{ℕ}
use mathlib.Core.Path.{◌≡◌, refl}
use mathlib.Core.List.{List, [], ◌∷◌}
use mathlib.Core.Bool.{Bool, true, false}
use native.Mathlib.Omega.{arith}
use lib.Dec.{eqb}
use lib.Pointwise.{pointwise}
use borrow.Author.Tests.{eq-eqb, eqb-true}
use Rattle.digits.specs.Same.{same}
use Rattle.digits.proofs.Bools.{and_left, and_right}

pub same_true : (l m : List ℕ) → same l m ≡ true → l ≡ m
unfolding same
same_true [] [] e = refl
same_true [] (c ∷ m) e = let z : ◌≡◌ {A = ℕ} 0 1 = cc in let w : ⊥ = omega arith in absurd w
same_true (b ∷ l) [] e = let z : ◌≡◌ {A = ℕ} 0 1 = cc in let w : ⊥ = omega arith in absurd w
same_true (b ∷ l) (c ∷ m) e =
    let i = eqb-true b c (and_left _ _ e) in let j = same_true l m (and_right (eqb b c) _ e) in cc

pub same_refl : (l : List ℕ) → same l l ≡ true
unfolding same
same_refl [] = refl
same_refl (b ∷ l) = rw (eq-eqb b b refl, same_refl l)

pub same_false : (l m : List ℕ) → (l ≡ m → ⊥) → same l m ≡ false
same_false l m n = go (same l m) refl
  where
    go : (t : Bool) → same l m ≡ t → t ≡ false
    go true e = absurd (n (same_true l m e))
    go false e = refl

-- What std says of two slices that it compares.
pub same-pointwise : (l m : List ℕ) → pointwise eqb l m ≡ same l m
unfolding same
same-pointwise [] [] = refl
same-pointwise [] (c ∷ m) = refl
same-pointwise (b ∷ l) [] = refl
same-pointwise (b ∷ l) (c ∷ m) = rw (same-pointwise l m)
