-- The letter of a unit, from both sides, by cases of the length of the field: none, one, more.
use Prim.Native.Nat.{ℕ}
use mathlib.Core.Bool.{◌&&◌, ◌||◌, Bool, cond, false, not, true}
use mathlib.Core.List.{[], ◌∷◌, List}
use mathlib.Core.Logic.{◌⊎◌, inl, inr}
use mathlib.Core.Path.{◌≡◌, refl}
use native.Mathlib.Omega.{arith}
use lib.Dec.{eqb, eqb-suc-zero}
use lib.ListN.{get_or, length}
use Rattle.digits.specs.Same.{same}
use Rattle.digits.proofs.Bools.{and-true}
use Rattle.digits.proofs.Sameness.{same_refl, same_true}
use Rattle.form.specs.Units.{unit_wrong}

-- One byte is a letter where it is that letter.
pub same-one : (u : List ℕ) (b : ℕ) → length u ≡ 1 → same u (b ∷ []) ≡ eqb (get_or u 0 0) b
unfolding same
same-one [] b e = let z : ⊥ = omega arith in absurd z
same-one (x ∷ []) b e = and-true (eqb x b)
same-one (x ∷ y ∷ u) b e = let z : ⊥ = omega arith in absurd z

-- A unit that is not wrong is its letter, or is empty and its value is not there.
pub unit-is : (u : List ℕ) (there : Bool) (b : ℕ) → unit_wrong u there b ≡ 0 → (u ≡ b ∷ []) ⊎ ((u ≡ []) × (there ≡ false))
unfolding unit_wrong
unit-is u there b e = go u (same u (b ∷ [])) there refl e
  where
    go : (x : List ℕ) (t h : Bool) → same u (b ∷ []) ≡ t → ◌≡◌ {A = ℕ} (cond (t || (not h && eqb (length x) 0)) 0 1) 0
        → (u ≡ b ∷ []) ⊎ ((x ≡ []) × (h ≡ false))
    go x true h p q = inl (same_true u (b ∷ []) p)
    go [] false false p q = inr (refl, refl)
    go (c ∷ x) false false p q = let k : ◌≡◌ {A = ℕ} 1 0 = rw (eqb-suc-zero (length x)) at q in let z : ⊥ = omega arith in absurd z
    go x false true p q = let z : ⊥ = omega arith in absurd z

-- And each of the two is not wrong.
pub unit-letter : (there : Bool) (b : ℕ) → unit_wrong (b ∷ []) there b ≡ 0
unfolding unit_wrong
unit-letter there b = rw (same_refl (b ∷ []))

-- And so is an empty one without its value.
pub unit-empty : (b : ℕ) → unit_wrong [] false b ≡ 0
unfolding unit_wrong same
unit-empty b = refl
