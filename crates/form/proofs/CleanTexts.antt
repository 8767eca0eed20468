-- The texts that several forms share are clean, and no longer than their digits allow.
use Prim.Native.Nat.{◌%◌, ◌+◌, ◌/◌, ◌<◌, ◌≤◌, suc, ℕ}
use mathlib.Core.Bool.{Bool, cond, false, true}
use mathlib.Core.List.{[], ◌++◌, ◌∷◌, List}
use mathlib.Core.Path.{◌∙◌, ◌≡◌, ap, sym}
use native.Mathlib.Nat.{add-zero, zero-add}
use native.Mathlib.Omega.{arith}
use lib.Dec.{eqb, lit<, lit≤, ltb}
use lib.IntN.{negsuc, pos, ℤ}
use lib.ListN.{length, length-append}
use borrow.Author.Tests.{lt-ltb}
use Rattle.digits.specs.Decimal.{print_fixed}
use Rattle.digits.specs.Plain.{fraction_text, number_text, plain_text, width_of}
use Rattle.digits.specs.Sign.{sign_text}
use Rattle.digits.proofs.DecimalLaws.{length-fixed}
use Rattle.digits.proofs.Widths.{width_is}
use Rattle.fields.specs.Fields.{join_fields}
use Rattle.form.specs.Values.{if_there, unit_field}
use Rattle.form.proofs.Clean.{Clean, clean-append, clean-fixed}

pub clean-if : (there : Bool) (s : List ℕ) → Clean s → Clean (if_there there s)
clean-if true s c = c
clean-if false s c = tt

pub point : (s : List ℕ) → Clean s → Clean (46 ∷ s)
point s c = ((lit< tt, lit< tt), c)

pub clean-plain : (n : ℕ) → Clean (plain_text n)
unfolding plain_text
clean-plain n = clean-fixed (width_of n) n

clean-fraction : (m : ℕ) → Clean (fraction_text m)
unfolding fraction_text
clean-fraction m = go (eqb m 0) (eqb (m % 100) 0) (eqb (m % 10) 0)
  where
    go : (a b c : Bool) → Clean (cond a [] (46 ∷ cond b (print_fixed 1 (m / 100)) (cond c (print_fixed 2 (m / 10)) (print_fixed 3 m))))
    go true b c = tt
    go false true c = point (print_fixed 1 (m / 100)) (clean-fixed 1 (m / 100))
    go false false true = point (print_fixed 2 (m / 10)) (clean-fixed 2 (m / 10))
    go false false false = point (print_fixed 3 m) (clean-fixed 3 m)

pub clean-number : (v : ℕ) → Clean (number_text v)
unfolding number_text
clean-number v = clean-append (plain_text (v / 1000)) (fraction_text (v % 1000)) (clean-plain (v / 1000)) (clean-fraction (v % 1000))

pub clean-sign : (z : ℤ) → Clean (sign_text z)
clean-sign (pos n) = tt
clean-sign (negsuc n) = ((lit< tt, lit< tt), tt)

-- Lengths.
abbrev pub total : List (List ℕ) → ℕ
total [] = 0
total (f ∷ fs) = suc (length f + total fs)

pub total-append : (s t : List (List ℕ)) → total (s ++ t) ≡ total s + total t
total-append [] t = sym (zero-add (total t))
total-append (f ∷ s) t = let e = total-append s t in omega (arith, e)

pub joined_length : (f : List ℕ) (fs : List (List ℕ)) → length (join_fields f fs) ≡ length f + total fs
unfolding join_fields
joined_length f [] = sym (add-zero (length f))
joined_length f (g ∷ fs) = length-append f (44 ∷ join_fields g fs) ∙ ap (λ (n : ℕ). length f + suc n) (joined_length g fs)

pub length-if : (there : Bool) (s : List ℕ) (n : ℕ) → length s ≤ n → length (if_there there s) ≤ n
length-if true s n h = h
length-if false s n h = omega arith

pub length-sign : (z : ℤ) → length (sign_text z) ≤ 1
length-sign (pos n) = omega arith
length-sign (negsuc n) = omega arith

pub length-plain : (n : ℕ) → n < 1000000 → length (plain_text n) ≤ 6
unfolding plain_text
length-plain n h = rw (length-fixed (width_of n) n) (width_is n h).most

length-fraction : (m : ℕ) → length (fraction_text m) ≤ 4
unfolding fraction_text
length-fraction m = go (eqb m 0) (eqb (m % 100) 0) (eqb (m % 10) 0)
  where
    go : (a b c : Bool) → length (cond a [] (46 ∷ cond b (print_fixed 1 (m / 100)) (cond c (print_fixed 2 (m / 10)) (print_fixed 3 m)))) ≤ 4
    go true b c = omega arith
    go false true c = omega (arith, length-fixed 1 (m / 100))
    go false false true = omega (arith, length-fixed 2 (m / 10))
    go false false false = omega (arith, length-fixed 3 m)

-- A number, and one below 360 or 180.
pub length-number : (v : ℕ) → v < 1000000000 → length (number_text v) ≤ 10
unfolding number_text
length-number v h = simp length-append (omega (arith, length-plain (v / 1000) (omega arith), length-fraction (v % 1000)))

wide_below : (n : ℕ) → n < 1000 → width_of n ≤ 3
unfolding width_of
wide_below n h = rw (lt-ltb n 1000 h) (three (ltb n 10) (ltb n 100))
  where
    three : (s t : Bool) → cond s 1 (cond t 2 3) ≤ 3
    three true t = lit≤ tt
    three false true = lit≤ tt
    three false false = lit≤ tt

plain-below : (n : ℕ) → n < 1000 → length (plain_text n) ≤ 3
unfolding plain_text
plain-below n h = rw (length-fixed (width_of n) n) (wide_below n h)

pub length-below : (v : ℕ) → v < 1000000 → length (number_text v) ≤ 7
unfolding number_text
length-below v h = simp length-append (omega (arith, plain-below (v / 1000) (omega arith), length-fraction (v % 1000)))

-- The sets of letters.
pub clean-one : (b : ℕ) → 44 < b → b < 92 → Clean (b ∷ [])
clean-one b h k = ((h, k), tt)

pub field-unit : (there : Bool) (b : ℕ) → 44 < b → b < 92 → Clean (unit_field there b)
field-unit there b h k = clean-if there (b ∷ []) (clean-one b h k)

pub long-unit : (there : Bool) (b : ℕ) → length (unit_field there b) ≤ 1
long-unit there b = length-if there (b ∷ []) 1 (lit≤ tt)
