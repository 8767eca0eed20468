-- A number that was read is in its range, and what is written of it is no longer than it was: written without needless zeros it is the
-- shortest that has its value.
use Prim.Native.Nat.{◌%◌, ◌*◌, ◌+◌, ◌-◌, ◌/◌, ◌<◌, ◌^◌, ◌≤◌, suc, zero, ℕ}
use mathlib.Core.Bool.{Bool, cond, false, true}
use mathlib.Core.List.{[], ◌∷◌, List}
use Rattle.std.specs.Prelude.{Some}
use mathlib.Core.Path.{◌≡◌, refl}
use native.Mathlib.Nat.{lt_of_lt_of_le, pow-le-pow_right}
use native.Mathlib.Omega.{arith}
use lib.Dec.{eqb, lit<, ltb}
use lib.IntN.{nat_abs, ℤ}
use lib.ListN.{length, length-append}
use borrow.Author.Tests.{eq-eqb, ltb-false, ltb-true}
use Rattle.digits.specs.Decimal.{print_fixed}
use Rattle.digits.specs.Plain.{fraction_text, number_text, plain_text, width_of}
use Rattle.digits.specs.Sign.{signed}
use Rattle.digits.proofs.Bools.{true-false}
use Rattle.digits.proofs.DecimalLaws.{length-fixed}
use Rattle.digits.proofs.Widths.{Wide, width_is}
use Rattle.form.specs.Got.{got_of, maybe_int_of, maybe_of}
use Rattle.form.specs.Values.{if_there, outside, range_wrong, signed_wrong}
use Rattle.form.proofs.Ranged.{maybe-in, maybe-int-in, maybe-int-short, maybe-short, signed-size, told_in, told-short}
use Rattle.form_number.specs.Fixed.{fixed_of}
use Rattle.form_number.specs.Number.{below_of, height_of, number_of}
use Rattle.form_number.specs.Values.{height_text}
use Rattle.form_number.proofs.FixedLaws.{fixed-is}
use Rattle.form_number.proofs.NumberSides.{below-is, height-is, minus, number_is, plain, pointed, whole, Written, WrittenHeight}

-- Digits of a fixed width.
module _ (w lo hi : ℕ) where
  fixed-range : (f : List ℕ) (v : ℕ) → fixed_of w lo hi f ≡ Some v → (lo ≤ v) × (v ≤ hi)
  fixed-range f v e = let i = fixed-is w lo hi f v e in (i.2, i.3)

  fixed-long : (f : List ℕ) (v : ℕ) → fixed_of w lo hi f ≡ Some v → length (print_fixed w v) ≤ length f
  fixed-long f v e = let i = fixed-is w lo hi f v e in rw i.0 (omega arith)

  pub fixed_in : (f : List ℕ) → (maybe_of f (fixed_of w lo hi f)).wrong ≡ 0
      → range_wrong lo hi (maybe_of f (fixed_of w lo hi f)).there (maybe_of f (fixed_of w lo hi f)).value ≡ 0
  fixed_in = maybe-in (fixed_of w lo hi) (print_fixed w) lo hi fixed-range

  pub fixed-short : (f : List ℕ) → (maybe_of f (fixed_of w lo hi f)).wrong ≡ 0
      → length (if_there (maybe_of f (fixed_of w lo hi f)).there (print_fixed w (maybe_of f (fixed_of w lo hi f)).value)) ≤ length f
  fixed-short = maybe-short (fixed_of w lo hi) (print_fixed w) lo hi fixed-long

  pub exact-in : (f : List ℕ) → (got_of (fixed_of w lo hi f)).wrong ≡ 0 → outside lo hi (got_of (fixed_of w lo hi f)).value ≡ 0
  exact-in = told_in (fixed_of w lo hi) (print_fixed w) lo hi fixed-range

  pub exact-short : (f : List ℕ) → (got_of (fixed_of w lo hi f)).wrong ≡ 0
      → length (print_fixed w (got_of (fixed_of w lo hi f)).value) ≤ length f
  exact-short = told-short (fixed_of w lo hi) (print_fixed w) lo hi fixed-long

-- No width is more than a number needs.
width-least : (n k : ℕ) → k ≤ 6 → 1 ≤ k → n < 10 ^ k → width_of n ≤ k
width-least n k a b h = go (ltb k (width_of n)) refl
  where
    w : Wide n (width_of n)
    w = width_is n (lt_of_lt_of_le h (pow-le-pow_right {n = 10} (lit< tt) a))

    go : (t : Bool) → ltb k (width_of n) ≡ t → width_of n ≤ k
    go true e =
        let i = ltb-true k (width_of n) e in
        let p : 10 ^ k ≤ 10 ^ (width_of n - 1) = pow-le-pow_right {n = 10} (lit< tt) (omega arith) in
        let q : 10 ^ (width_of n - 1) ≤ n = w.needs (omega arith) in
        let z : ⊥ = omega (arith, p, q, h) in absurd z
    go false e = ltb-false k (width_of n) e

plain-least : (n k : ℕ) → k ≤ 6 → 1 ≤ k → n < 10 ^ k → length (plain_text n) ≤ k
unfolding plain_text
plain-least n k a b h = rw (length-fixed (width_of n) n) (width-least n k a b h)

-- The thousandths, by how many digits they were read from.
fraction-cases : (m : ℕ) → (length (fraction_text m) ≤ 4)
    × ((m % 10 ≡ 0 → length (fraction_text m) ≤ 3) × (m % 100 ≡ 0 → length (fraction_text m) ≤ 2))
unfolding fraction_text
fraction-cases m = go (eqb m 0) (eqb (m % 100) 0) (eqb (m % 10) 0) refl refl
  where
    go : (a b c : Bool) → eqb (m % 100) 0 ≡ b → eqb (m % 10) 0 ≡ c
        → (length (cond a [] (46 ∷ cond b (print_fixed 1 (m / 100)) (cond c (print_fixed 2 (m / 10)) (print_fixed 3 m)))) ≤ 4)
        × ((m % 10 ≡ 0 → length (cond a [] (46 ∷ cond b (print_fixed 1 (m / 100)) (cond c (print_fixed 2 (m / 10)) (print_fixed 3 m)))) ≤ 3)
        × (m % 100 ≡ 0 → length (cond a [] (46 ∷ cond b (print_fixed 1 (m / 100)) (cond c (print_fixed 2 (m / 10)) (print_fixed 3 m)))) ≤ 2))
    go true b c p q = (omega arith, (λ _. omega arith, λ _. omega arith))
    go false true c p q = let l = length-fixed 1 (m / 100) in (omega (arith, l), (λ _. omega (arith, l), λ _. omega (arith, l)))
    go false false true p q =
        let l = length-fixed 2 (m / 10) in
        (omega (arith, l), (λ _. omega (arith, l), λ e. absurd (true-false (eq-eqb (m % 100) 0 e) p)))
    go false false false p q =
        let l = length-fixed 3 m in
        (omega (arith, l), (λ e. absurd (true-false (eq-eqb (m % 10) 0 e) q), λ e. absurd (true-false (eq-eqb (m % 100) 0 e) p)))

none-long : length (fraction_text 0) ≡ 0
unfolding fraction_text
none-long = refl

number-length : (v : ℕ) → length (number_text v) ≡ length (plain_text (v / 1000)) + length (fraction_text (v % 1000))
unfolding number_text
number-length v = length-append (plain_text (v / 1000)) (fraction_text (v % 1000))

-- What a number reads is below a million, and its text is no longer.
pub record Shortest (f : List ℕ) (v : ℕ) : Type 0 where
  pub below : v ≤ 999999999
  pub short : length (number_text v) ≤ length f

million : (n k : ℕ) → k ≤ 6 → n < 10 ^ k → n < 1000000
million n k a h = lt_of_lt_of_le h (pow-le-pow_right {n = 10} (lit< tt) a)

part-one : (j m : ℕ) → 1 ≤ j → j ≤ 3 → m < 10 ^ j → (m * 10 ^ (3 - j) < 1000) × (length (fraction_text (m * 10 ^ (3 - j))) ≤ suc j)
part-one zero m a b h = let z : ⊥ = omega arith in absurd z
part-one (suc zero) m a b h = let c = fraction-cases (m * 100) in (omega (arith, h), c.1.1 (omega arith))
part-one (suc (suc zero)) m a b h = let c = fraction-cases (m * 10) in (omega (arith, h), c.1.0 (omega arith))
part-one (suc (suc (suc zero))) m a b h = let c = fraction-cases (m * 1) in (omega (arith, h), c.0)
part-one (suc (suc (suc (suc j)))) m a b h = let z : ⊥ = omega arith in absurd z

pub shortest : {f : List ℕ} {v : ℕ} → Written f v → Shortest f v
shortest (whole {k} {n} a b h) =
    let d : n * 1000 / 1000 ≡ n = omega arith in
    let m : n * 1000 % 1000 ≡ 0 = omega arith in
    let p : length (plain_text (n * 1000 / 1000)) ≤ k = rw d (plain-least n k b a h) in
    let q : length (fraction_text (n * 1000 % 1000)) ≡ 0 = rw m none-long in
    record {
      below = omega (arith, million n k b h);
      short = rw (number-length (n * 1000), length-fixed k n) (omega (arith, p, q));
    }
shortest (pointed {k} {n} {j} {m} a b h c d i) =
    let t = part-one j m c d i in
    let u : (n * 1000 + m * 10 ^ (3 - j)) / 1000 ≡ n = omega (arith, t.0) in
    let r : (n * 1000 + m * 10 ^ (3 - j)) % 1000 ≡ m * 10 ^ (3 - j) = omega (arith, t.0) in
    let p : length (plain_text ((n * 1000 + m * 10 ^ (3 - j)) / 1000)) ≤ k = rw u (plain-least n k b a h) in
    let q : length (fraction_text ((n * 1000 + m * 10 ^ (3 - j)) % 1000)) ≤ suc j = rw r t.1 in
    record {
      below = omega (arith, million n k b h, t.0);
      short = rw (
        number-length (n * 1000 + m * 10 ^ (3 - j)),
        length-append (print_fixed k n) (46 ∷ print_fixed j m),
        length-fixed k n,
        length-fixed j m,
      ) (omega (arith, p, q));
    }

pub number_in : (f : List ℕ) → (maybe_of f (number_of f)).wrong ≡ 0
    → range_wrong 0 999999999 (maybe_of f (number_of f)).there (maybe_of f (number_of f)).value ≡ 0
number_in = maybe-in number_of number_text 0 999999999 (λ f v e. (omega arith, (shortest (number_is f v e)).below))

pub number_short : (f : List ℕ) → (maybe_of f (number_of f)).wrong ≡ 0
    → length (if_there (maybe_of f (number_of f)).there (number_text (maybe_of f (number_of f)).value)) ≤ length f
number_short = maybe-short number_of number_text 0 999999999 (λ f v e. (shortest (number_is f v e)).short)

module _ (hi : ℕ) where
  pub below_in : (f : List ℕ) → (maybe_of f (below_of (hi + 1) f)).wrong ≡ 0
      → range_wrong 0 hi (maybe_of f (below_of (hi + 1) f)).there (maybe_of f (below_of (hi + 1) f)).value ≡ 0
  below_in = maybe-in (below_of (hi + 1)) number_text 0 hi (λ f v e. let b = below-is (hi + 1) f v e in (omega arith, omega (arith, b.1)))

  pub below-short : (f : List ℕ) → (maybe_of f (below_of (hi + 1) f)).wrong ≡ 0
      → length (if_there (maybe_of f (below_of (hi + 1) f)).there (number_text (maybe_of f (below_of (hi + 1) f)).value)) ≤ length f
  below-short = maybe-short (below_of (hi + 1)) number_text 0 hi (λ f v e. (shortest (below-is (hi + 1) f v e).0).short)

signed-long : (v : ℕ) → length (height_text (signed true v)) ≤ suc (length (number_text v))
signed-long zero = omega arith
signed-long (suc v) = omega arith

height-shortest : {f : List ℕ} {z : ℤ} → WrittenHeight f z → (nat_abs z ≤ 999999999) × (length (height_text z) ≤ length f)
height-shortest (plain w) = let s = shortest w in (s.below, s.short)
height-shortest (minus {f} {v} w) = let s = shortest w in (rw (signed-size v) s.below, omega (arith, signed-long v, s.short))

pub height-in : (f : List ℕ) → (maybe_int_of f (height_of f)).wrong ≡ 0
    → signed_wrong 999999999 (maybe_int_of f (height_of f)).there (maybe_int_of f (height_of f)).value ≡ 0
height-in = maybe-int-in height_of height_text 999999999 (λ f z e. (height-shortest (height-is f z e)).0)

pub height-short : (f : List ℕ) → (maybe_int_of f (height_of f)).wrong ≡ 0
    → length (if_there (maybe_int_of f (height_of f)).there (height_text (maybe_int_of f (height_of f)).value)) ≤ length f
height-short = maybe-int-short height_of height_text 999999999 (λ f z e. (height-shortest (height-is f z e)).1)
