-- The minus of a value stands exactly where it is less than zero.
use Prim.Native.Nat.{ℕ}
use mathlib.Core.Bool.{false, true, true≢false}
use mathlib.Core.List.{[], ◌∷◌}
use mathlib.Core.Path.{◌≡◌, refl}
use native.Mathlib.Omega.{arith}
use lib.Dec.{ltb}
use lib.IntN.{negsuc, pos, ℤ}
use lib.Signed.{lt_z}
use borrow.Author.Tests.{ltb-true}
use Rattle.digits.specs.Sign.{sign_text}

-- The sign and the side of a value, by whether it is less than zero.
pub below-zero : (n : ℕ) → ltb n 0 ≡ true → ⊥
below-zero n e = omega (arith, ltb-true n 0 e)

pub sign-minus : (z : ℤ) → lt_z z (pos 0) ≡ true → 45 ∷ [] ≡ sign_text z
sign-minus (pos n) e = absurd (below-zero n e)
sign-minus (negsuc n) e = refl

pub sign-none : (z : ℤ) → lt_z z (pos 0) ≡ false → [] ≡ sign_text z
sign-none (pos n) e = refl
sign-none (negsuc n) e = absurd (true≢false e)
