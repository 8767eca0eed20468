-- Decimal digits over the width: the scan as a loop meets it, and that what is printed in a width reads back.
use Prim.Native.Nat.{ℕ, zero, suc, ◌+◌, ◌-◌, ◌*◌, ◌/◌, ◌%◌, ◌^◌, ◌≤◌, ◌<◌}
use mathlib.Core.Path.{◌≡◌, refl, ◌∙◌}
use mathlib.Core.List.{List, [], ◌∷◌, ◌++◌}
use mathlib.Core.Bool.{Bool, true, false, cond}
use native.Mathlib.Omega.{arith}
use native.Mathlib.Nat.{le_refl, pow-suc, pow-le-pow_right, one-le-pow, mul-one, mod-one, add-zero, zero-add, zero-mul, add-sub_cancel_left}
use native.Mathlib.Nat.{mod-eq_of_lt}
use lib.Arith.{mod-mul}
use native.Mathlib.Numerals.{add-one, sub-one}
use lib.Dec.{lit<}
use lib.ListN.{length, drop, get_or, drop_of_length-le, length-append}
use lib.Seq.{drop-cons}
use borrow.Author.Tests.{le-leb}
use Rattle.std.specs.Prelude.{None, Some}
use Rattle.digits.specs.Decimal.{is_digit, digits_from, digits_of, print_fixed}
use Rattle.digits.proofs.Powers.{sum-up}

-- eighteen digits leave room for one more
pub room-lt : {i : ℕ} → i ≤ 18 → {acc : ℕ} → acc < 10 ^ i → acc < 1000000000000000000
room-lt {i} h {acc} k = omega (arith, pow-le-pow_right {n = 10} (lit< tt) h)

-- the scan at a digit, and at another byte
module _ (s : List ℕ) (i acc : ℕ) (h : i < length s) where
  pub scan-digit : is_digit (get_or s i 0) ≡ true → digits_from acc (drop i s) ≡ digits_from (acc * 10 + (get_or s i 0 - 48)) (drop (i + 1) s)
  unfolding digits_from
  scan-digit d = rw (drop-cons s i 0 h, add-one, d)

  pub scan-other : is_digit (get_or s i 0) ≡ false → digits_from acc (drop i s) ≡ None
  unfolding digits_from
  scan-other d = rw (drop-cons s i 0 h, d)

pub scan-end : (s : List ℕ) (i acc : ℕ) → length s ≤ i → digits_from acc (drop i s) ≡ Some acc
unfolding digits_from is_digit
scan-end s i acc h = rw (drop_of_length-le s h)

pub length-fixed : (w n : ℕ) → length (print_fixed w n) ≡ w
unfolding print_fixed
length-fixed zero n = refl
length-fixed (suc w) n = rw (length-append, length-fixed w (n / 10), add-one)

digits-snoc : (s : List ℕ) (b acc v : ℕ) → digits_from acc s ≡ Some v → digits_from acc (s ++ (b ∷ [])) ≡ digits_from v (b ∷ [])
unfolding digits_from is_digit
digits-snoc [] b acc v h = let e : acc ≡ v = cc in rw e
digits-snoc (x ∷ s) b acc v h = go (is_digit x) h (digits-snoc s b (acc * 10 + (x - 48)) v)
  where
    go : (t : Bool) → cond t (digits_from (acc * 10 + (x - 48)) s) None ≡ Some v
        → (digits_from (acc * 10 + (x - 48)) s ≡ Some v → digits_from (acc * 10 + (x - 48)) (s ++ (b ∷ [])) ≡ digits_from v (b ∷ []))
        → cond t (digits_from (acc * 10 + (x - 48)) (s ++ (b ∷ []))) None ≡ digits_from v (b ∷ [])
    go true e k = k e
    go false e k = cc

pub digits-rt : (w n acc : ℕ) → digits_from acc (print_fixed w n) ≡ Some (acc * 10 ^ w + n % 10 ^ w)
unfolding print_fixed digits_from is_digit
digits-rt zero n acc = rw (mul-one, mod-one, add-zero)
digits-rt (suc w) n acc =
    digits-snoc (print_fixed w (n / 10)) (48 + n % 10) acc _ (digits-rt w (n / 10) acc)
    ∙ rw (le-leb 48 (48 + n % 10) (omega arith), le-leb (48 + n % 10) 57 (omega arith), add-sub_cancel_left 48 (n % 10), sum-up)
    (rw (pow-suc, mod-mul n {m = 10 ^ w} {c = 10} (one-le-pow w 10 (lit< tt)) (lit< tt)))

pub fixed-rt : (w n : ℕ) → w ≤ 9 → n < 10 ^ w → digits_of w w (print_fixed w n) ≡ Some n
unfolding digits_of
fixed-rt w n h k = rw (length-fixed, le-leb w w (le_refl w), le-leb w 9 h, digits-rt, mod-eq_of_lt k, zero-mul, zero-add)

-- one digit less, at a width that is not 0
pub fixed-pred : (w n : ℕ) → (w ≡ 0 → ⊥) → print_fixed w n ≡ print_fixed (w - 1) (n / 10) ++ ((48 + n % 10) ∷ [])
unfolding print_fixed
fixed-pred zero n h = absurd (h refl)
fixed-pred (suc w) n h = rw sub-one
