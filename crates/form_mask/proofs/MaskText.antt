-- Masks from both sides: hex digits are those of their value, first digit by first digit, and printed they are read again.
use Prim.Native.Nat.{◌%◌, ◌*◌, ◌+◌, ◌-◌, ◌/◌, ◌<◌, ◌^◌, ◌≤◌, suc, zero, ℕ}
use mathlib.Core.Bool.{Bool, cond, false, true}
use mathlib.Core.List.{[], ◌++◌, ◌∷◌, List}
use mathlib.Core.Logic.{◌⊎◌, inl, inr}
use Rattle.std.specs.Prelude.{None, Option, Some}
use Rattle.digits.specs.Bind.{bind}
use mathlib.Core.Path.{◌∙◌, ◌≡◌, ap, refl, sym}
use native.Mathlib.Nat.{add-zero, div-div-eq-div-mul, div-one, le_refl, mod-eq_of_lt, mod-one, mul-one, one-le-pow, pow-suc, zero-add}
use native.Mathlib.Nat.{zero-mul}
use native.Mathlib.Numerals.{add-one}
use native.Mathlib.Omega.{arith}
use lib.Arith.{mod-mul}
use lib.Dec.{leb, lit<, lit≤}
use lib.ListN.{length, length-append}
use borrow.Author.Tests.{le-leb, leb-true}
use Rattle.digits.specs.Ascii.{ascii}
use Rattle.digits.specs.Hex.{hex_digit, hex_of, hex_value}
use Rattle.digits.specs.Same.{same}
use Rattle.digits.proofs.HexLaws.{digit-of, hex-is, hex-value-lt, value_of}
use Rattle.digits.proofs.Options.{nothing, through}
use Rattle.digits.proofs.Powers.{div-pow, sum-up}
use Rattle.digits.proofs.Sameness.{same_false, same_refl, same_true}
use Rattle.form_mask.specs.Masks.{hex_digits_of, hex_from, is_port_mask, port_mask_of, print_hex, satellites_of}
use Rattle.form_mask.proofs.MaskLaws.{hex-are, hex-lt, port-mask-lt}

-- The first digit, and those of the rest.
hex-first : (k v : ℕ) → print_hex (suc k) v ≡ hex_of (v / 16 ^ k % 16) ∷ print_hex k v
unfolding print_hex
hex-first zero v = rw div-one
hex-first (suc k) v =
    ap (λ (l : List ℕ). l ++ (hex_of (v % 16) ∷ [])) (hex-first k (v / 16))
    ∙ ap (λ (x : ℕ). hex_of (x % 16) ∷ (print_hex k (v / 16) ++ (hex_of (v % 16) ∷ []))) (div-pow 16 v k)

split : (x n d : ℕ) → x ≡ n * 16 + d → d < 16 → (x / 16 ≡ n) × (x % 16 ≡ d)
split x n d e h = (omega arith, omega arith)

from-text : (s : List ℕ) (n v : ℕ) → hex_from n s ≡ Some v → (v / 16 ^ length s ≡ n) × (print_hex (length s) v ≡ s)
unfolding hex_from print_hex
from-text [] n v e = let p : n ≡ v = cc in (rw div-one (sym p), refl)
from-text (b ∷ s) n v e =
    let t = through (hex_digit b) (hex_from (n * 16 + hex_value b) s) v e in
    let r = from-text s (n * 16 + hex_value b) v t.1 in
    let q = split (v / 16 ^ length s) n (hex_value b) r.0 (hex-value-lt b t.0) in
    (rw pow-suc (sym (div-div-eq-div-mul v (16 ^ length s) 16) ∙ q.0), hex-first (length s) v ∙ rw (q.1, digit-of b t.0, r.1))

-- The bytes read are the value printed in their number.
pub hex-text : (lo hi : ℕ) (s : List ℕ) (v : ℕ) → hex_digits_of lo hi s ≡ Some v → s ≡ print_hex (length s) v
hex-text lo hi s v e = sym (from-text s 0 v (hex-are lo hi s v e).1.1).1

-- w digits are so many bytes.
pub length-hex : (w n : ℕ) → length (print_hex w n) ≡ w
unfolding print_hex
length-hex zero n = refl
length-hex (suc w) n = rw (length-append, length-hex w (n / 16), add-one)

snoc : (s : List ℕ) (b n v : ℕ) → hex_from n s ≡ Some v → hex_from n (s ++ (b ∷ [])) ≡ hex_from v (b ∷ [])
unfolding hex_from
snoc [] b n v h = let e : n ≡ v = cc in rw e
snoc (x ∷ s) b n v h = go (hex_digit x) h (snoc s b (n * 16 + hex_value x) v)
  where
    go : (t : Bool) → cond t (hex_from (n * 16 + hex_value x) s) None ≡ Some v
        → (hex_from (n * 16 + hex_value x) s ≡ Some v → hex_from (n * 16 + hex_value x) (s ++ (b ∷ [])) ≡ hex_from v (b ∷ []))
        → cond t (hex_from (n * 16 + hex_value x) (s ++ (b ∷ []))) None ≡ hex_from v (b ∷ [])
    go true e k = k e
    go false e k = nothing v e

hex-rt : (w v n : ℕ) → hex_from n (print_hex w v) ≡ Some (n * 16 ^ w + v % 16 ^ w)
unfolding print_hex hex_from
hex-rt zero v n = rw (mul-one, mod-one, add-zero)
hex-rt (suc w) v n =
    snoc (print_hex w (v / 16)) (hex_of (v % 16)) n _ (hex-rt w (v / 16) n)
    ∙ rw (hex-is (v % 16) (omega arith), value_of (v % 16), sum-up, pow-suc)
    (rw (mod-mul v {m = 16 ^ w} {c = 16} (one-le-pow w 16 (lit< tt)) (lit< tt)))

-- What is printed in lo to hi digits, and no more than eight, is read again.
pub text-hex : (lo hi w v : ℕ) → lo ≤ w → w ≤ hi → w ≤ 8 → v < 16 ^ w → hex_digits_of lo hi (print_hex w v) ≡ Some v
unfolding hex_digits_of
text-hex lo hi w v h k l m = rw (length-hex, le-leb lo w h, le-leb w hi k, le-leb w 8 l, hex-rt, mod-eq_of_lt m, zero-mul, zero-add)

-- A field of exactly w digits is the value printed in them.
pub whole-text : (w : ℕ) (f : List ℕ) (v : ℕ) → hex_digits_of w w f ≡ Some v → (v < 16 ^ w) × (f ≡ print_hex w v)
whole-text w f v e =
    let t = hex-are w w f v e in
    let l : length f ≡ w = omega (arith, t.0, t.1.0) in
    (hex-lt w w f v e, hex-text w w f v e ∙ ap (λ (k : ℕ). print_hex k v) l)

-- And each value that fits is read so.
pub text-whole : (w v : ℕ) → w ≤ 8 → v < 16 ^ w → hex_digits_of w w (print_hex w v) ≡ Some v
text-whole w v h k = text-hex w w w v (le_refl w) (le_refl w) h k

-- A port mask that was read is printed in four digits.
pub port-text : (f : List ℕ) (v : ℕ) → port_mask_of f ≡ Some v → (is_port_mask v ≡ true) × (f ≡ print_hex 4 v)
unfolding port_mask_of
port-text f v e = go (hex_digits_of 4 4 f) refl e
  where
    go : (o : Option ℕ) → hex_digits_of 4 4 f ≡ o → bind o (λ n. cond (is_port_mask n) (Some n) None) ≡ Some v → (is_port_mask v ≡ true)
        × (f ≡ print_hex 4 v)
    go None p q = nothing v q
    go (Some n) p q =
        let t = through (is_port_mask n) (Some n) v q in
        let s : Some n ≡ Some v = t.1 in
        let m : n ≡ v = cc in
        (rw m at t.0, (whole-text 4 f v (p ∙ s)).1)

-- And each port mask is read so.
pub text-port : (v : ℕ) → is_port_mask v ≡ true → port_mask_of (print_hex 4 v) ≡ Some v
unfolding port_mask_of
text-port v e = rw (text-whole 4 v (lit≤ tt) (omega (arith, (port-mask-lt v e).1)), e)

-- No hex digits are a minus and a one.
no_minus : (s : List ℕ) (v : ℕ) → hex_from 0 s ≡ Some v → s ≡ ascii "-1" → ⊥
unfolding hex_from hex_digit
no_minus s v e p = nothing v (ap (λ (l : List ℕ). hex_from 0 l) (sym p) ∙ e)

-- A mask of satellites that was read is `-1` and all ones, or its value printed in up to w digits.
pub satellites-text : (w : ℕ) (f : List ℕ) (v : ℕ) → satellites_of w f ≡ Some v
    → ((f ≡ ascii "-1") × ((w ≤ 8) × (v ≡ 16 ^ w - 1))) ⊎ ((1 ≤ length f) × ((length f ≤ w) × (f ≡ print_hex (length f) v)))
unfolding satellites_of
satellites-text w f v e = go (same f (ascii "-1")) refl (leb w 8) refl e
  where
    go : (a : Bool) → same f (ascii "-1") ≡ a → (b : Bool) → leb w 8 ≡ b
        → cond a (cond b (Some (16 ^ w - 1)) None) (hex_digits_of 1 w f) ≡ Some v
        → ((f ≡ ascii "-1") × ((w ≤ 8) × (v ≡ 16 ^ w - 1))) ⊎ ((1 ≤ length f) × ((length f ≤ w) × (f ≡ print_hex (length f) v)))
    go true p true r q = inl (same_true f (ascii "-1") p, (leb-true w 8 r, let s : 16 ^ w - 1 ≡ v = cc in sym s))
    go true p false r q = nothing v q
    go false p b r q = let t = hex-are 1 w f v q in inr (t.0, (t.1.0, hex-text 1 w f v q))

-- And `-1` is read as all ones.
pub text-all : (w : ℕ) → w ≤ 8 → satellites_of w (ascii "-1") ≡ Some (16 ^ w - 1)
unfolding satellites_of
text-all w h = rw (same_refl (ascii "-1"), le-leb w 8 h)

-- And each value that fits is read so.
pub text-satellites : (w k v : ℕ) → 1 ≤ k → k ≤ w → k ≤ 8 → v < 16 ^ k → satellites_of w (print_hex k v) ≡ Some v
unfolding satellites_of
text-satellites w k v h i j l =
    let t = text-hex 1 w k v h i j l in
    rw (same_false (print_hex k v) (ascii "-1") (no_minus (print_hex k v) v (hex-are 1 w (print_hex k v) v t).1.1)) t
