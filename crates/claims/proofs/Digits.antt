-- The decimal text of a number is its digits in the fewest places that hold it, and reads back as the number: by going along the digits,
-- from the last.
use Prim.Native.Nat.{ℕ, zero, suc, ◌/◌, ◌%◌, ◌^◌, ◌≤◌, ◌<◌, ◌+◌}
use mathlib.Core.Path.{◌≡◌, refl, ap, ◌∙◌}
use mathlib.Core.List.{List, [], ◌∷◌, ◌++◌}
use mathlib.Core.Bool.{Bool, true, false, cond}
use Rattle.std.specs.Prelude.{Some}
use native.Mathlib.Omega.{arith}
use native.Mathlib.Nat.{pow-suc, mod-eq_of_lt, zero-mul, zero-add}
use lib.Dec.{ltb}
use borrow.Author.Tests.{ltb-true, ltb-false}
use Rattle.digits.specs.Decimal.{digits_from, print_fixed}
use Rattle.digits.proofs.DecimalLaws.{digits-rt}
use Rattle.text.specs.Numbers.{digits_within, decimal_text}

-- A text of n in more places than one only where n needs them.
pub record Fewest (n : ℕ) (text : List ℕ) : Type 0 where
  pub more : ℕ
  pub digits : text ≡ print_fixed (suc more) n
  pub hold : n < 10 ^ suc more
  pub needed : 1 ≤ more → 10 ^ more ≤ n

one_place : (n : ℕ) → n < 10 → Fewest n ((48 + n % 10) ∷ [])
unfolding print_fixed
one_place n h = record { more = 0; digits = refl; hold = h; needed = λ k. let z : ⊥ = omega (arith, k) in absurd z }

one_more : (n : ℕ) (s : List ℕ) → 10 ≤ n → Fewest (n / 10) s → Fewest n (s ++ ((48 + n % 10) ∷ []))
unfolding print_fixed
one_more n s h f =
    record {
      more = suc f.more;
      digits = ap (λ (t : List ℕ). t ++ ((48 + n % 10) ∷ [])) f.digits;
      hold = omega (arith, f.hold, pow-suc 10 (suc f.more));
      needed = λ k. ten f.more f.needed;
    }
  where
    ten : (m : ℕ) → (1 ≤ m → 10 ^ m ≤ n / 10) → 10 ^ suc m ≤ n
    ten zero g = omega arith
    ten (suc m) g = omega (arith, g (omega arith), pow-suc 10 (suc m))

within : (w n : ℕ) → n < 10 ^ suc w → Fewest n (digits_within (suc w) n)
unfolding digits_within
within zero n h = go (ltb n 10) refl
  where
    go : (t : Bool) → ltb n 10 ≡ t → Fewest n (cond t [] (digits_within zero (n / 10)) ++ ((48 + n % 10) ∷ []))
    go true e = one_place n h
    go false e = let z : ⊥ = omega (arith, ltb-false n 10 e, h) in absurd z
within (suc w) n h = go (ltb n 10) refl (within w (n / 10) (omega (arith, h, pow-suc 10 (suc w))))
  where
    go : (t : Bool) → ltb n 10 ≡ t → Fewest (n / 10) (digits_within (suc w) (n / 10))
        → Fewest n (cond t [] (digits_within (suc w) (n / 10)) ++ ((48 + n % 10) ∷ []))
    go true e f = one_place n (ltb-true n 10 e)
    go false e f = one_more n (digits_within (suc w) (n / 10)) (ltb-false n 10 e) f

pub fewest : (n : ℕ) → n < 10 ^ 20 → Fewest n (decimal_text n)
unfolding decimal_text
fewest n h = within 19 n h

pub reads-back : (n : ℕ) → n < 10 ^ 20 → digits_from 0 (decimal_text n) ≡ Some n
reads-back n h =
    let f = fewest n h in
    ap (digits_from 0) f.digits ∙ (digits-rt (suc f.more) n 0 ∙ rw (mod-eq_of_lt f.hold, zero-mul, zero-add))
