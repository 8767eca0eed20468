-- Hex digits over their number: each digit more is sixteen times as much room, and the scan as a loop meets it.
use Prim.Native.Nat.{◌%◌, ◌*◌, ◌+◌, ◌-◌, ◌/◌, ◌<◌, ◌^◌, ◌≤◌, suc, ℕ}
use mathlib.Core.Bool.{◌&&◌, Bool, cond, false, true}
use mathlib.Core.List.{[], ◌∷◌, List}
use Rattle.std.specs.Prelude.{None, Option, Some}
use Rattle.digits.specs.Bind.{bind}
use mathlib.Core.Path.{◌≡◌}
use native.Mathlib.Nat.{add-zero, lt_of_lt_of_le, one-le-pow, pow-le-pow_right, pow-suc, zero-add}
use native.Mathlib.Numerals.{add-one}
use native.Mathlib.Omega.{arith}
use lib.Dec.{eqb, leb, lit<}
use lib.ListN.{drop, drop_of_length-le, get_or, length}
use lib.Seq.{drop-cons}
use borrow.Author.Tests.{eqb-true, leb-true}
use Rattle.digits.specs.Ascii.{ascii}
use Rattle.digits.specs.Hex.{hex_digit, hex_value}
use Rattle.digits.specs.Same.{same}
use Rattle.digits.proofs.Bools.{and_left, and_right}
use Rattle.digits.proofs.HexLaws.{hex-value-lt}
use Rattle.digits.proofs.Options.{nothing, through}
use Rattle.digits.proofs.Powers.{step-lt}
use Rattle.form_mask.specs.Masks.{hex_digits_of, hex_from, is_port_mask, port_mask_of, satellites_of}

-- Seven digits leave room for one more in 32 bits.
pub hex-room : {i : ℕ} → i ≤ 7 → {n : ℕ} → n < 16 ^ i → n < 268435456
hex-room {i} h {n} k = omega (arith, pow-le-pow_right {n = 16} (lit< tt) h)

-- The scan at a place of its bytes.
module _ (s : List ℕ) (i n : ℕ) (h : i < length s) where
  -- At a digit the scan goes on with the value of one digit more.
  pub hex-on : hex_digit (get_or s i 0) ≡ true → hex_from n (drop i s) ≡ hex_from (n * 16 + hex_value (get_or s i 0)) (drop (i + 1) s)
  unfolding hex_from
  hex-on e = rw (drop-cons s i 0 h, add-one, e)

  -- At any other byte it gives nothing.
  pub hex-off : hex_digit (get_or s i 0) ≡ false → hex_from n (drop i s) ≡ None
  unfolding hex_from
  hex-off e = rw (drop-cons s i 0 h, e)

-- At the end it gives the value so far.
pub hex-end : (s : List ℕ) (i n : ℕ) → length s ≤ i → hex_from n (drop i s) ≡ Some n
unfolding hex_from
hex-end s i n h = rw (drop_of_length-le s h)

-- All ones and one more are the next power.
pub ones_step : (i v : ℕ) → v + 1 ≡ 16 ^ i → v * 16 + 15 + 1 ≡ 16 ^ (i + 1)
ones_step i v h = rw (add-one i, pow-suc) (omega arith)

-- So in the end they are one less than the power of the width.
pub ones-all : (i w v : ℕ) → i ≤ w → w ≤ i → v + 1 ≡ 16 ^ i → v ≡ 16 ^ w - 1
ones-all i w v h k e = let p : i ≡ w = omega arith in let q = rw p at e in omega arith

from-lt : (s : List ℕ) (k n v : ℕ) → n < 16 ^ k → hex_from n s ≡ Some v → v < 16 ^ (k + length s)
unfolding hex_from
from-lt [] k n v h e = let p : n ≡ v = cc in rw (add-zero, ← p) h
from-lt (b ∷ s) k n v h e =
    let t = through _ (hex_from (n * 16 + hex_value b) s) v e in
    let r : v < 16 ^ (k + 1 + length s) = from-lt s (k + 1) (n * 16 + hex_value b) v (step-lt 16 k h (hex-value-lt b t.0)) t.1 in
    let q : k + 1 + length s ≡ k + suc (length s) = omega arith in
    rw q at r

-- What was read: how many bytes, and their scan.
pub hex-are : (lo hi : ℕ) (s : List ℕ) (v : ℕ) → hex_digits_of lo hi s ≡ Some v → (lo ≤ length s) × ((length s ≤ hi) × (hex_from 0 s ≡ Some v))
unfolding hex_digits_of
hex-are lo hi s v e =
    let t = through (leb lo (length s) && (leb (length s) hi && leb (length s) 8)) (hex_from 0 s) v e in
    let r = and_right (leb lo (length s)) _ t.0 in
    (leb-true lo (length s) (and_left _ _ t.0), (leb-true (length s) hi (and_left _ _ r), t.1))

-- Up to hi hex digits are below 16 ^ hi.
pub hex-lt : (lo hi : ℕ) (s : List ℕ) (v : ℕ) → hex_digits_of lo hi s ≡ Some v → v < 16 ^ hi
hex-lt lo hi s v e =
    let t = hex-are lo hi s v e in
    let r : v < 16 ^ (0 + length s) = from-lt s 0 0 v (lit< tt) t.1.1 in
    lt_of_lt_of_le (rw zero-add at r) (pow-le-pow_right {n = 16} (lit< tt) t.1.0)

-- A mask of satellites has no bit past its digits.
pub satellites-lt : (w : ℕ) (f : List ℕ) (v : ℕ) → satellites_of w f ≡ Some v → v < 16 ^ w
unfolding satellites_of
satellites-lt w f v e = go (same f (ascii "-1")) (leb w 8) e
  where
    go : (a b : Bool) → cond a (cond b (Some (16 ^ w - 1)) None) (hex_digits_of 1 w f) ≡ Some v → v < 16 ^ w
    go true true q = let p : 16 ^ w - 1 ≡ v = cc in omega (arith, one-le-pow w 16 (lit< tt))
    go true false q = nothing v q
    go false b q = hex-lt 1 w f v q

-- A port mask that was read is one.
pub port-mask-is : (f : List ℕ) (v : ℕ) → port_mask_of f ≡ Some v → is_port_mask v ≡ true
unfolding port_mask_of
port-mask-is f v e = go (hex_digits_of 4 4 f) e
  where
    go : (o : Option ℕ) → bind o (λ n. cond (is_port_mask n) (Some n) None) ≡ Some v → is_port_mask v ≡ true
    go None q = nothing v q
    go (Some n) q =
        let t = through (is_port_mask n) (Some n) v q in
        let s : Some n ≡ Some v = t.1 in
        let p : n ≡ v = cc in
        rw p at t.0

-- Such a mask has no bit 7, and is below 2 ^ 12.
pub port-mask-lt : (v : ℕ) → is_port_mask v ≡ true → (v / 128 % 2 ≡ 0) × (v < 4096)
unfolding is_port_mask
port-mask-lt v e =
    let a = eqb-true (v / 128 % 2) 0 (and_left _ _ e) in
    let b = eqb-true (v / 4096) 0 (and_right (eqb (v / 128 % 2) 0) _ e) in
    (a, omega arith)
