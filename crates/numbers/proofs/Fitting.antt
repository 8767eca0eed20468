-- A number of 64 bits is looked at by its sign: the tests of the code are those of the definitions, and what 32 bits hold of it is itself
-- where they can.
use Prim.Native.Nat.{min, ℕ}
use mathlib.Core.Path.{◌≡◌, refl, sym}
use mathlib.Core.Bool.{◌&&◌, Bool, cond, false, true, true≢false}
use native.Mathlib.Omega.{arith}
use borrow.Author.Tests.{le-leb, le-ltb, leb-false, leb-true, ltb-false, ltb-true, ne_eqb}
use Rattle.std.specs.Int.{int_max, int_min}
use Rattle.digits.specs.Pick.{pick}
use lib.Dec.{eqb, leb, ltb, T}
use lib.IntN.{nat_abs, negsuc, pos, ℤ}
use lib.Signed.{le_z, lt_z, mag, non_neg}
use mir.Syntax.{w32, w64}
use mir.Val.{bool_byte, Fits, of_z, SFits, to_z}
use mir.Facts.{to_z-of_z}
use mir.ValLaws.{to_z_pos}
use Rattle.numbers.specs.Numbers.{high, is_mark, is_there, is_whole, low, most, signed_of, whole_of}

-- The code's tests.
pub there-is : (z : ℤ) → SFits w64 z → eqb (of_z w64 z) 1 ≡ is_there z
unfolding is_there
there-is (pos n) f = refl
there-is (negsuc n) f = ne_eqb (of_z w64 (negsuc n)) 1 (λ e. omega (arith, e, f.sfits))

between : (hi : ℕ) (n : ℕ) → (leb 0 n && leb n hi) ≡ leb n hi
between hi n = rw (le-leb 0 n (omega arith))

pub mark-is : (z : ℤ) → (le_z (pos 0) z && le_z z (pos 1)) ≡ is_mark z
unfolding is_mark
mark-is (pos n) = between 1 n
mark-is (negsuc n) = refl

pub whole_is : (z : ℤ) → (le_z (pos 0) z && le_z z (pos 4294967295)) ≡ is_whole z
unfolding is_whole
whole_is (pos n) = between 4294967295 n
whole_is (negsuc n) = refl

pub whole-fits : (z : ℤ) → is_whole z ≡ true → T (non_neg z) × Fits w32 (nat_abs z)
unfolding is_whole
whole-fits (pos n) e = (tt, record { fits = omega (arith, leb-true n most e) })
whole-fits (negsuc n) e = absurd (true≢false (sym e))

pub signed-fits : (z : ℤ) → lt_z z low ≡ false → lt_z high z ≡ false → SFits w32 z
signed-fits (pos n) a b = record { sfits = omega (arith, ltb-false 2147483647 n b) }
signed-fits (negsuc n) a b = record { sfits = omega (arith, ltb-false 2147483647 n a) }

-- What the code makes of a number: the less of its bits without sign and the most of 32, or moved to the nearest end.
pub whole-held : (z : ℤ) → SFits w64 z → min (of_z w64 z) most ≡ whole_of z
unfolding whole_of is_whole
whole-held (pos n) f = go (leb n most) refl
  where
    go : (t : Bool) → leb n most ≡ t → min n most ≡ pick t n most
    go true e = omega (arith, leb-true n most e)
    go false e = omega (arith, leb-false n most e)
whole-held (negsuc n) f = omega (arith, f.sfits)

pub clamped : (z : ℤ) → int_max low (int_min z high) ≡ signed_of z
unfolding signed_of
clamped (pos n) = go (ltb 2147483647 n)
  where
    go : (t : Bool) → int_max low (cond t high (pos n)) ≡ pick t high (pos n)
    go true = refl
    go false = refl
clamped (negsuc n) = go (ltb 2147483647 n)
  where
    go : (t : Bool) → cond t low (negsuc n) ≡ pick t low (negsuc n)
    go true = refl
    go false = refl

-- What is held of a value that fits is the value.
pub whole_back : (n : ℕ) → leb n most ≡ true → whole_of (pos n) ≡ n
unfolding whole_of is_whole
whole_back n h = rw h

pub signed_back : (z : ℤ) → ltb (mag z) 2147483648 ≡ true → signed_of z ≡ z
unfolding signed_of
signed_back (pos n) h = rw (le-ltb 2147483647 n (omega (arith, ltb-true n 2147483648 h)))
signed_back (negsuc n) h = rw (le-ltb 2147483647 n (omega (arith, ltb-true n 2147483648 h)))

-- The numbers that the code casts to 64 bits: a value without sign, one with a sign, and a mark.
pub wide : (n : ℕ) → Fits w32 n → to_z w64 n ≡ pos n
wide n f = to_z_pos w64 n (omega (arith, f.fits))

pub wide_fits : (n : ℕ) → Fits w32 n → SFits w64 (pos n)
wide_fits n f = record { sfits = omega (arith, f.fits) }

widened : (z : ℤ) → SFits w32 z → SFits w64 z
widened (pos n) f = record { sfits = omega (arith, f.sfits) }
widened (negsuc n) f = record { sfits = omega (arith, f.sfits) }

pub cast_fits : (z : ℤ) → SFits w32 z → SFits w64 (to_z w32 (of_z w32 z))
cast_fits z f = rw (to_z-of_z f) (widened z f)

pub cast-back : (z : ℤ) → SFits w32 z → to_z w64 (of_z w64 (to_z w32 (of_z w32 z))) ≡ z
cast-back z f = rw (to_z-of_z f) (to_z-of_z (widened z f))

pub mark-back : (b : Bool) → to_z w64 (bool_byte b) ≡ pos (cond b 1 0)
mark-back true = refl
mark-back false = refl
