-- Numbers written without needless zeros are numbers of the form, with their values: by how many digits they have.
use Prim.Native.Nat.{◌%◌, ◌*◌, ◌+◌, ◌-◌, ◌/◌, ◌<◌, ◌^◌, ◌≤◌, suc, ℕ}
use mathlib.Core.Bool.{Bool, cond, false, true}
use mathlib.Core.List.{[], ◌++◌, ◌∷◌, append-nil}
use mathlib.Core.Path.{◌≡◌, refl, subst}
use native.Mathlib.Omega.{arith}
use lib.Dec.{eqb, lit≤}
use lib.IntN.{nat_abs, negsuc, pos, ℤ}
use borrow.Author.Tests.{eqb-true}
use Rattle.digits.specs.Decimal.{print_fixed}
use Rattle.digits.specs.Plain.{fraction_text, number_text, plain_text, width_of}
use Rattle.digits.proofs.Widths.{Wide, width_is}
use Rattle.form_number.specs.Values.{height_text}
use Rattle.form_number.proofs.NumberSides.{minus, plain, pointed, whole, Written, WrittenHeight}

-- A number in thousandths: its whole part, and what stands behind the point.
pub number-written : (v : ℕ) → v < 1000000000 → Written (number_text v) v
unfolding number_text plain_text fraction_text
number-written v h = go (eqb (v % 1000) 0) refl
  where
    w : Wide (v / 1000) (width_of (v / 1000))
    w = width_is (v / 1000) (omega arith)

    at : (j k : ℕ) → 1 ≤ j → j ≤ 3 → k < 10 ^ j → v / 1000 * 1000 + k * 10 ^ (3 - j) ≡ v
        → Written (print_fixed (width_of (v / 1000)) (v / 1000) ++ (46 ∷ print_fixed j k)) v
    at j k a b c e = subst (λ (x : ℕ). Written (print_fixed (width_of (v / 1000)) (v / 1000) ++ (46 ∷ print_fixed j k)) x) e
        (pointed w.some w.most w.fits a b c)

    tens : (t : Bool) → eqb (v % 1000 % 10) 0 ≡ t
        → Written (print_fixed (width_of (v / 1000)) (v / 1000) ++ (46 ∷ cond t (print_fixed 2 (v % 1000 / 10)) (print_fixed 3 (v % 1000)))) v
    tens true e = at 2 (v % 1000 / 10) (lit≤ tt) (lit≤ tt) (omega arith) (omega (arith, eqb-true (v % 1000 % 10) 0 e))
    tens false e = at 3 (v % 1000) (lit≤ tt) (lit≤ tt) (omega arith) (omega arith)

    hundreds : (t : Bool) → eqb (v % 1000 % 100) 0 ≡ t
        → Written (print_fixed (width_of (v / 1000)) (v / 1000)
        ++ (46 ∷ cond t (print_fixed 1 (v % 1000 / 100))
        (cond (eqb (v % 1000 % 10) 0) (print_fixed 2 (v % 1000 / 10)) (print_fixed 3 (v % 1000))))) v
    hundreds true e = at 1 (v % 1000 / 100) (lit≤ tt) (lit≤ tt) (omega arith) (omega (arith, eqb-true (v % 1000 % 100) 0 e))
    hundreds false e = tens (eqb (v % 1000 % 10) 0) refl

    go : (t : Bool) → eqb (v % 1000) 0 ≡ t
        → Written (print_fixed (width_of (v / 1000)) (v / 1000)
        ++ cond t [] (46 ∷ cond (eqb (v % 1000 % 100) 0) (print_fixed 1 (v % 1000 / 100))
        (cond (eqb (v % 1000 % 10) 0) (print_fixed 2 (v % 1000 / 10)) (print_fixed 3 (v % 1000))))) v
    go true e =
        let q : v / 1000 * 1000 ≡ v = omega (arith, eqb-true (v % 1000) 0 e) in
        rw (append-nil (print_fixed (width_of (v / 1000)) (v / 1000)))
        (subst (λ (x : ℕ). Written (print_fixed (width_of (v / 1000)) (v / 1000)) x) q (whole w.some w.most w.fits))
    go false e = hundreds (eqb (v % 1000 % 100) 0) refl

-- A height, with its minus.
pub height-written : (z : ℤ) → nat_abs z < 1000000000 → WrittenHeight (height_text z) z
height-written (pos n) h = plain (number-written n h)
height-written (negsuc n) h = minus (number-written (suc n) h)
