-- The magnitude of a signed number of 32 bits: widened it is the same, and negated it fits and is not negative.
use Prim.Native.Nat.{◌<◌, suc, zero}
use mathlib.Core.Bool.{false, true, true≢false}
use mathlib.Core.Path.{◌∙◌, ◌≡◌, ap, refl}
use native.Mathlib.Omega.{arith}
use lib.Dec.{T}
use lib.IntN.{+ℤ_idl, ◌-ℤ◌, nat_abs, negsuc, neg_ℤ, pos, ℤ}
use lib.Signed.{lt_z, non_neg}
use mir.Facts.{sfits_widen, to_z-of_z}
use mir.Syntax.{w32, w64}
use mir.Val.{Fits, of_z, SFits, to_z}
use borrow.Author.Tests.{ltb-true}

neg-fits : (z : ℤ) → SFits w32 z → SFits w64 (neg_ℤ z)
neg-fits (pos zero) f = record { sfits = omega arith }
neg-fits (pos (suc n)) f = record { sfits = omega (arith, f.sfits) }
neg-fits (negsuc n) f = record { sfits = omega (arith, f.sfits) }

neg-plain : (z : ℤ) → SFits w32 z → lt_z z (pos 0) ≡ true → T (non_neg (neg_ℤ z)) × Fits w32 (nat_abs (neg_ℤ z))
neg-plain (pos n) f e = let z : n < 0 = ltb-true n 0 e in let w : ⊥ = omega arith in absurd w
neg-plain (negsuc n) f e = (tt, record { fits = omega (arith, f.sfits) })

neg_same : (z : ℤ) → nat_abs (neg_ℤ z) ≡ nat_abs z
neg_same (pos zero) = refl
neg_same (pos (suc n)) = refl
neg_same (negsuc n) = refl

pos-plain : (z : ℤ) → SFits w32 z → lt_z z (pos 0) ≡ false → T (non_neg z) × Fits w32 (nat_abs z)
pos-plain (pos n) f e = (tt, record { fits = omega (arith, f.sfits) })
pos-plain (negsuc n) f e = absurd (true≢false e)

module _ (z : ℤ) (f : SFits w32 z) where
  pub widened : SFits w64 (to_z w32 (of_z w32 z))
  widened = rw (to_z-of_z f) (sfits_widen tt f)

  inner : to_z w64 (of_z w64 (to_z w32 (of_z w32 z))) ≡ z
  inner = ap (λ (y : ℤ). to_z w64 (of_z w64 y)) (to_z-of_z f) ∙ to_z-of_z {w = w64} (sfits_widen tt f)

  pub negated : SFits w64 (pos 0 -ℤ to_z w64 (of_z w64 (to_z w32 (of_z w32 z))))
  negated = rw (inner, +ℤ_idl) (neg-fits z f)

  -- What the machine makes of a negative number that is negated.
  outer : to_z w64 (of_z w64 (pos 0 -ℤ to_z w64 (of_z w64 (to_z w32 (of_z w32 z))))) ≡ neg_ℤ z
  outer = rw (inner, +ℤ_idl) (to_z-of_z (neg-fits z f))

  pub negated-plain : lt_z (to_z w32 (of_z w32 z)) (pos 0) ≡ true
      → T (non_neg (to_z w64 (of_z w64 (pos 0 -ℤ to_z w64 (of_z w64 (to_z w32 (of_z w32 z)))))))
      × Fits w32 (nat_abs (to_z w64 (of_z w64 (pos 0 -ℤ to_z w64 (of_z w64 (to_z w32 (of_z w32 z)))))))
  negated-plain e = rw outer (neg-plain z f (rw (to_z-of_z f) at e))

  pub negated_size : nat_abs (to_z w64 (of_z w64 (pos 0 -ℤ to_z w64 (of_z w64 (to_z w32 (of_z w32 z)))))) ≡ nat_abs z
  negated_size = ap nat_abs outer ∙ neg_same z

  pub kept-plain : lt_z (to_z w32 (of_z w32 z)) (pos 0) ≡ false → T (non_neg (to_z w32 (of_z w32 z))) × Fits w32 (nat_abs (to_z w32 (of_z w32 z)))
  kept-plain e = rw (to_z-of_z f) (pos-plain z f (rw (to_z-of_z f) at e))
