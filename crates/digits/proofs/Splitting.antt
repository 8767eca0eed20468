-- A signed number split by a division: quotient and remainder have the sizes of those of its size, and fit where it does.
use Prim.Native.Nat.{◌%◌, ◌/◌, ◌≤◌, suc, zero, ℕ}
use mathlib.Core.Path.{◌∙◌, ◌≡◌, ap, refl}
use native.Mathlib.Omega.{arith}
use lib.IntN.{nat_abs, negsuc, neg_ℤ, pos, ℤ}
use lib.Signed.{mag, mag_rem, quot_z, rem_z}
use mir.Facts.{to_z-of_z}
use mir.Syntax.{w32}
use mir.Val.{of_z, SFits, to_z}

neg-size : (n : ℕ) → nat_abs (neg_ℤ (pos n)) ≡ n
neg-size zero = refl
neg-size (suc n) = refl

quot-size : (k : ℕ) (z : ℤ) → nat_abs (quot_z z (pos k)) ≡ nat_abs z / k
quot-size k (pos a) = refl
quot-size k (negsuc a) = neg-size (suc a / k)

rem-size : (k : ℕ) (z : ℤ) → nat_abs (rem_z z (pos k)) ≡ nat_abs z % k
rem-size k (pos a) = refl
rem-size k (negsuc a) = neg-size (suc a % k)

neg-mag : (n a : ℕ) → n ≤ suc a → mag (neg_ℤ (pos n)) ≤ a
neg-mag zero a h = omega arith
neg-mag (suc n) a h = omega arith

-- Dividing by 600000 and by 60.
quot-mag : (z : ℤ) → (mag (quot_z z (pos 600000)) ≤ mag z) × (mag (quot_z z (pos 60)) ≤ mag z)
quot-mag (pos a) = (omega arith, omega arith)
quot-mag (negsuc a) = (neg-mag (suc a / 600000) a (omega arith), neg-mag (suc a / 60) a (omega arith))

module _ (z : ℤ) (f : SFits w32 z) where
  pub degrees-fit : SFits w32 (quot_z (to_z w32 (of_z w32 z)) (pos 600000))
  degrees-fit = rw (to_z-of_z f) (record { sfits = omega (arith, f.sfits, (quot-mag z).0) })

  pub hours-fit : SFits w32 (quot_z (to_z w32 (of_z w32 z)) (pos 60))
  hours-fit = rw (to_z-of_z f) (record { sfits = omega (arith, f.sfits, (quot-mag z).1) })

  rem-fit : (k : ℕ) → SFits w32 (rem_z z (pos k))
  rem-fit k = record { sfits = omega (arith, f.sfits, mag_rem z (pos k)) }

  pub degrees-size : nat_abs (to_z w32 (of_z w32 (quot_z (to_z w32 (of_z w32 z)) (pos 600000)))) ≡ nat_abs z / 600000
  degrees-size = ap nat_abs (to_z-of_z degrees-fit) ∙ rw (to_z-of_z f) (quot-size 600000 z)

  pub hours-size : nat_abs (to_z w32 (of_z w32 (quot_z (to_z w32 (of_z w32 z)) (pos 60)))) ≡ nat_abs z / 60
  hours-size = ap nat_abs (to_z-of_z hours-fit) ∙ rw (to_z-of_z f) (quot-size 60 z)

  pub left-size : (k : ℕ) → nat_abs (to_z w32 (of_z w32 (rem_z (to_z w32 (of_z w32 z)) (pos k)))) ≡ nat_abs z % k
  left-size k = rw (to_z-of_z f, to_z-of_z (rem-fit k)) (rem-size k z)
