-- How many digits a number has: its width is the least that holds it.
use Prim.Native.Nat.{◌-◌, ◌<◌, ◌^◌, ◌≤◌, ℕ}
use mathlib.Core.Bool.{Bool, cond, false, true}
use mathlib.Core.Path.{◌≡◌, refl}
use native.Mathlib.Omega.{arith}
use lib.Dec.{lit≤, ltb}
use borrow.Author.Tests.{ltb-false, ltb-true}
use Rattle.digits.specs.Plain.{width_of}

-- How many digits a number has, and that it needs them.
pub record Wide (n w : ℕ) : Type 0 where
  pub some : 1 ≤ w
  pub most : w ≤ 6
  pub fits : n < 10 ^ w
  pub needs : 1 < w → 10 ^ (w - 1) ≤ n

pub width_is : (n : ℕ) → n < 1000000 → Wide n (width_of n)
unfolding width_of
width_is n h = one (ltb n 10) refl
  where
    five : (t : Bool) → ltb n 100000 ≡ t → 10000 ≤ n → Wide n (cond t 5 6)
    five true e k = record { some = lit≤ tt; most = lit≤ tt; fits = ltb-true n 100000 e; needs = λ _. k }
    five false e k = record { some = lit≤ tt; most = lit≤ tt; fits = h; needs = λ _. ltb-false n 100000 e }

    four : (t : Bool) → ltb n 10000 ≡ t → 1000 ≤ n → Wide n (cond t 4 (cond (ltb n 100000) 5 6))
    four true e k = record { some = lit≤ tt; most = lit≤ tt; fits = ltb-true n 10000 e; needs = λ _. k }
    four false e k = five (ltb n 100000) refl (ltb-false n 10000 e)

    three : (t : Bool) → ltb n 1000 ≡ t → 100 ≤ n → Wide n (cond t 3 (cond (ltb n 10000) 4 (cond (ltb n 100000) 5 6)))
    three true e k = record { some = lit≤ tt; most = lit≤ tt; fits = ltb-true n 1000 e; needs = λ _. k }
    three false e k = four (ltb n 10000) refl (ltb-false n 1000 e)

    two : (t : Bool) → ltb n 100 ≡ t → 10 ≤ n → Wide n (cond t 2 (cond (ltb n 1000) 3 (cond (ltb n 10000) 4 (cond (ltb n 100000) 5 6))))
    two true e k = record { some = lit≤ tt; most = lit≤ tt; fits = ltb-true n 100 e; needs = λ _. k }
    two false e k = three (ltb n 1000) refl (ltb-false n 100 e)

    one : (t : Bool) → ltb n 10 ≡ t
        → Wide n (cond t 1 (cond (ltb n 100) 2 (cond (ltb n 1000) 3 (cond (ltb n 10000) 4 (cond (ltb n 100000) 5 6)))))
    one true e = record { some = lit≤ tt; most = lit≤ tt; fits = ltb-true n 10 e; needs = λ i. let z : ⊥ = omega arith in absurd z }
    one false e = two (ltb n 100) refl (ltb-false n 10 e)
