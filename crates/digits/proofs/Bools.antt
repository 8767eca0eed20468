-- What a test that holds, or a choice, says of its parts.
use Prim.Native.Nat.{ℕ}
use mathlib.Core.Path.{◌≡◌, refl}
use mathlib.Core.Bool.{Bool, true, false, cond, ◌&&◌, ◌||◌}
use mathlib.Core.Logic.{◌⊎◌, inl, inr}
use native.Mathlib.Omega.{arith}

pub and_left : (a b : Bool) → (a && b) ≡ true → a ≡ true
and_left true b e = refl
and_left false b e = e

pub and_right : (a b : Bool) → (a && b) ≡ true → b ≡ true
and_right true b e = e
and_right false b e = let z : ◌≡◌ {A = Bool} false true = e in cc

pub and_both : (a b : Bool) → a ≡ true → b ≡ true → (a && b) ≡ true
and_both true b e f = f
and_both false b e f = e

pub and-true : (a : Bool) → (a && true) ≡ a
and-true true = refl
and-true false = refl

pub and_assoc : (a b c : Bool) → ((a && b) && c) ≡ (a && (b && c))
and_assoc true b c = refl
and_assoc false b c = refl

-- One of two tests holds.
pub or_cases : (a b : Bool) → (a || b) ≡ true → (a ≡ true) ⊎ (b ≡ true)
or_cases true b e = inl refl
or_cases false b e = inr e

-- A test is not both.
pub true-false : {b : Bool} → b ≡ true → b ≡ false → ⊥
true-false {b} e f = let z : ◌≡◌ {A = ℕ} 0 1 = cc in omega arith

-- A choice by a test that is known.
pub yes : {A : Type 0} (b : Bool) (x y : A) → b ≡ true → cond b x y ≡ x
yes true x y e = refl
yes false x y e = let z : ◌≡◌ {A = ℕ} 0 1 = cc in let w : ⊥ = omega arith in absurd w

pub no : {A : Type 0} (b : Bool) (x y : A) → b ≡ false → cond b x y ≡ y
no true x y e = let z : ◌≡◌ {A = ℕ} 0 1 = cc in let w : ⊥ = omega arith in absurd w
no false x y e = refl

-- The first of two, since the other is not what was chosen.
pub pick_first : (b : Bool) (n m k : ℕ) → (m ≡ k → ⊥) → cond b n m ≡ k → (b ≡ true) × (n ≡ k)
pick_first true n m k h e = (refl, e)
pick_first false n m k h e = absurd (h e)

pub pick_second : (b : Bool) (n m k : ℕ) → (n ≡ k → ⊥) → cond b n m ≡ k → (b ≡ false) × (m ≡ k)
pick_second true n m k h e = absurd (h e)
pick_second false n m k h e = (refl, e)
