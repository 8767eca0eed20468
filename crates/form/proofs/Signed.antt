-- Signed values in their range, and none.
use Prim.Native.Nat.{◌≤◌, ℕ}
use mathlib.Core.Bool.{Bool, cond, false, true}
use mathlib.Core.Path.{◌∙◌, ◌≡◌, ap, refl}
use native.Mathlib.Omega.{arith}
use lib.Dec.{eqb}
use lib.IntN.{nat_abs, pos, ℤ}
use borrow.Author.Tests.{eqb-true}
use Rattle.form.specs.Row.{Form}
use Rattle.form.specs.Values.{range_wrong, signed_wrong}
use Rattle.form.proofs.Ranged.{in-outside, zero-outside}
use Rattle.form.proofs.Values.{inside, no_size}

pub signed-good : (hi : ℕ) (z : ℤ) → nat_abs z ≤ hi → signed_wrong hi true z ≡ 0
unfolding signed_wrong range_wrong
signed-good hi z h = in-outside 0 hi (nat_abs z) (omega arith) h

pub signed-missing : (hi : ℕ) → signed_wrong hi false (pos 0) ≡ 0
unfolding signed_wrong range_wrong
signed-missing hi = zero-outside

-- What reads as what is good has no wrong field, and its value.
pub is-got : {G X : Type 0} (f : Form G X) {g h : G} {v : X} → g ≡ h → f.wrong h ≡ 0 → f.value h ≡ v → (f.wrong g ≡ 0) × (f.value g ≡ v)
is-got f e p q = (ap f.wrong e ∙ p, ap f.value e ∙ q)

-- A signed value in its range, there and missing.
pub signed-in : (hi : ℕ) (z : ℤ) → signed_wrong hi true z ≡ 0 → nat_abs z ≤ hi
unfolding signed_wrong range_wrong
signed-in hi z e = (inside 0 hi (nat_abs z) e).1

pub signed-none : (hi : ℕ) (z : ℤ) → signed_wrong hi false z ≡ 0 → z ≡ pos 0
unfolding signed_wrong range_wrong
signed-none hi z e = let i = inside 0 0 (nat_abs z) e in no_size z (omega (arith, i.1))

-- The first of two tests, and the second behind it.
pub first-zero : (w : ℕ) {x y : ℕ} → (y ≡ 0 → ⊥) → cond (eqb w 0) x y ≡ 0 → (w ≡ 0) × (x ≡ 0)
first-zero w {x} {y} h e = go (eqb w 0) refl e
  where
    go : (t : Bool) → eqb w 0 ≡ t → cond t x y ≡ 0 → (w ≡ 0) × (x ≡ 0)
    go true q i = (eqb-true w 0 q, i)
    go false q i = absurd (h i)
