-- Signs over the width of a machine number: a value that fits is negated without loss, and keeps its size.
use Prim.Native.Nat.{◌<◌, ◌^◌, ◌≤◌, suc, zero, ℕ}
use mathlib.Core.Bool.{Bool, false, true}
use mathlib.Core.List.{List}
use Rattle.std.specs.Prelude.{None, Option, Some}
use mathlib.Core.Path.{◌∙◌, ◌≡◌, refl, sym}
use native.Mathlib.Nat.{le_refl, le-suc, lt_of_le_of_lt, lt_of_lt_of_le}
use lib.IntN.{+ℤ_idl, ◌-ℤ◌, nat_abs, neg_ℤ, pos}
use lib.Signed.{mag}
use mir.Facts.{to_z-of_z, to_z_pos}
use mir.Syntax.{Width}
use mir.Val.{hbits, of_z, SFits, to_z}
use Rattle.digits.specs.Decimal.{digits_of}
use Rattle.digits.specs.Sign.{signed, Under}
use Rattle.digits.proofs.Bounds.{digits_lt}

mag-neg : (v : ℕ) → mag (neg_ℤ (pos v)) ≤ v
mag-neg zero = le_refl 0
mag-neg (suc v) = le-suc v

module _ (w : Width) {v : ℕ} (h : v < 2 ^ hbits w) where
  -- The machine's negation is the negative.
  pub neg_is : pos 0 -ℤ to_z w v ≡ neg_ℤ (pos v)
  neg_is = rw (to_z_pos w h, +ℤ_idl)

  -- It fits.
  pub neg-fits : SFits w (pos 0 -ℤ to_z w v)
  neg-fits = rw neg_is (record { sfits = lt_of_le_of_lt (mag-neg v) h })

  -- And it comes back as it was.
  pub neg-back : to_z w (of_z w (pos 0 -ℤ to_z w v)) ≡ neg_ℤ (pos v)
  neg-back = to_z-of_z neg-fits ∙ neg_is

-- The size of a value does not depend on its sign.
pub size : (minus : Bool) (v : ℕ) → nat_abs (signed minus v) ≡ v
size true zero = refl
size true (suc v) = refl
size false v = refl

-- What a reader of up to hi digits answers is below 10 ^ hi.
pub under : (s : List ℕ) (lo hi k : ℕ) (o : Option ℕ) → 10 ^ hi ≤ k → o ≡ digits_of lo hi s → Under k o
under s lo hi k (Some v) h e = lt_of_lt_of_le (digits_lt lo hi s v (sym e)) h
under s lo hi k None h e = tt
