-- A number printed in the fewest places that hold it reads back.
use Prim.Native.Nat.{◌%◌, ◌+◌, ◌/◌, ◌<◌, ◌^◌, ◌≤◌, suc, zero, ℕ}
use mathlib.Core.Bool.{Bool, false, true}
use mathlib.Core.List.{[], ◌∷◌}
use Rattle.std.specs.Prelude.{Some}
use mathlib.Core.Path.{◌∙◌, ◌≡◌, refl}
use native.Mathlib.Nat.{mod-eq_of_lt, pow-le-pow_right, pow-suc, zero-add, zero-mul}
use native.Mathlib.Omega.{arith}
use lib.Dec.{leb, lit<}
use lib.ListN.{get_or, get_or-append}
use borrow.Author.Tests.{le-leb, leb-false, leb-true, ne_eqb}
use Rattle.digits.specs.Decimal.{digits_from, print_fixed}
use Rattle.digits.proofs.DecimalLaws.{digits-rt, length-fixed}
use Rattle.index_sevens.specs.Sevens.{most}
use Rattle.exhibits_lists.specs.Lists.{is_padded, number_of}

-- The first digit of a number that needs all its places is not 0.
first-digit : (m n : ℕ) → 10 ^ m ≤ n → n < 10 ^ suc m → 49 ≤ get_or (print_fixed (suc m) n) 0 0
unfolding print_fixed
first-digit zero n l h = omega arith
first-digit (suc m) n l h =
    rw (get_or-append (print_fixed (suc m) (n / 10)) ((48 + n % 10) ∷ []) 0 0 (omega (arith, length-fixed (suc m) (n / 10))))
    (first-digit m (n / 10) (omega (arith, l, pow-suc 10 m)) (omega (arith, h, pow-suc 10 (suc m))))

unpadded : (m n : ℕ) → n < 10 ^ suc m → (1 ≤ m → 10 ^ m ≤ n) → is_padded (print_fixed (suc m) n) ≡ false
unfolding is_padded
unpadded zero n h k = rw (length-fixed 1 n)
unpadded (suc m) n h k =
    let f = first-digit (suc m) n (k (omega arith)) h in
    rw (
      length-fixed (suc (suc m)) n,
      le-leb 2 (suc (suc m)) (omega arith),
      ne_eqb (get_or (print_fixed (suc (suc m)) n) 0 0) 48 (λ e. let z : ⊥ = omega (arith, e, f) in absurd z),
    )

few : (m n : ℕ) → n ≤ most → (1 ≤ m → 10 ^ m ≤ n) → m ≤ 9
few m n l k = go (leb 10 m) refl
  where
    go : (t : Bool) → leb 10 m ≡ t → m ≤ 9
    go true e = let z : ⊥ = omega (arith, l, k (omega (arith, leb-true 10 m e)), pow-le-pow_right {n = 10} (lit< tt) (leb-true 10 m e)) in
        absurd z
    go false e = omega (arith, leb-false 10 m e)

value : (m n : ℕ) → n < 10 ^ suc m → digits_from 0 (print_fixed (suc m) n) ≡ Some n
value m n h = digits-rt (suc m) n 0 ∙ rw (mod-eq_of_lt h, zero-mul, zero-add)

-- A text of n in more places than one only where n needs them, as `decimal_text` of the crate text is.
pub number-back : (m n : ℕ) → n ≤ most → n < 10 ^ suc m → (1 ≤ m → 10 ^ m ≤ n) → number_of (print_fixed (suc m) n) ≡ Some n
unfolding number_of
number-back m n l h k =
    rw (unpadded m n h k, length-fixed (suc m) n, le-leb 1 (suc m) (omega arith), le-leb (suc m) 10 (omega (arith, few m n l k)))
    (rw (value m n h, le-leb n most l))
