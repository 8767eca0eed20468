-- Digits without needless zeros, from both sides: the first of several is no zero exactly where the value needs it.
use Prim.Native.Nat.{◌%◌, ◌*◌, ◌+◌, ◌-◌, ◌/◌, ◌<◌, ◌^◌, ◌≤◌, suc, zero, ℕ}
use mathlib.Core.Bool.{◌&&◌, Bool, cond, false, true}
use mathlib.Core.List.{List}
use Rattle.std.specs.Prelude.{None, Option, Some}
use mathlib.Core.Path.{◌∙◌, ◌≡◌, ap, refl, sym}
use native.Mathlib.Nat.{div-eq_of_lt, div-lt_iff_lt-mul, le_trans, one-le-pow, pow-suc}
use native.Mathlib.Numerals.{sub-one}
use native.Mathlib.Omega.{arith}
use lib.Dec.{eqb, lit<, lit≤, ltb}
use lib.ListN.{get_or, length}
use borrow.Author.Tests.{eqb-false, lt-ltb, ltb-false, ltb-true, ne_eqb}
use Rattle.digits.specs.Decimal.{digits_of, print_fixed}
use Rattle.digits.proofs.Bounds.{digits-count, digits-len}
use Rattle.digits.proofs.DecimalLaws.{length-fixed}
use Rattle.digits.proofs.DigitSides.{digits_are, digits-read, fixed-first}
use Rattle.digits.proofs.Options.{nothing}
use Rattle.form.proofs.RangeLaws.{within-range, within-yes}
use Rattle.form_mask.specs.Rates.{code_of, plain_of, rate_of}

-- A value printed in as many digits as it needs, and in lo to hi.
pub record PlainText (lo hi : ℕ) (f : List ℕ) (v : ℕ) : Type 0 where
  pub width : ℕ
  pub from : lo ≤ width
  pub to : width ≤ hi
  pub text : f ≡ print_fixed width v
  pub fits : v < 10 ^ width
  pub needed : 1 < width → 10 ^ (width - 1) ≤ v

let-past : (t : Bool) (o : Option ℕ) (v : ℕ) → cond t None o ≡ Some v → (t ≡ false) × (o ≡ Some v)
let-past true o v e = nothing v e
let-past false o v e = (refl, e)

-- The first digit is a zero exactly where the value lies below the power.
lead : (v p : ℕ) → (48 + v / p % 10 ≡ 48 → ⊥) → p ≤ v
lead v p n = go (ltb v p) refl
  where
    go : (t : Bool) → ltb v p ≡ t → p ≤ v
    go true e = let z : v / p ≡ 0 = div-eq_of_lt (ltb-true v p e) in absurd (n (rw z))
    go false e = ltb-false v p e

lead-back : (v p : ℕ) → 0 < p → p ≤ v → v < p * 10 → 48 + v / p % 10 ≡ 48 → ⊥
lead-back v p z h k e =
    let a : v / p < 10 = (div-lt_iff_lt-mul z).1 (omega arith) in
    let b : v / p < 1 → v < 1 * p = (div-lt_iff_lt-mul z).0 in
    go (v / p) a b e
  where
    go : (x : ℕ) → x < 10 → (x < 1 → v < 1 * p) → 48 + x % 10 ≡ 48 → ⊥
    go zero a b e = omega (arith, b (lit< tt))
    go (suc x) a b e = omega arith

first : (k v : ℕ) → get_or (print_fixed (suc k) v) 0 0 ≡ 48 + v / 10 ^ k % 10
first k v = rw (fixed-first k v)

-- Digits read so are such a text.
pub plain-text : (lo hi : ℕ) (f : List ℕ) (v : ℕ) → plain_of lo hi f ≡ Some v → PlainText lo hi f v
unfolding plain_of
plain-text lo hi f v e =
    let t = let-past (ltb 1 (length f) && eqb (get_or f 0 0) 48) (digits_of lo hi f) v e in
    let d = digits-count lo hi f v t.1 in
    let x = digits_are lo hi f v t.1 in
    record {
      width = length f;
      from = d.0;
      to = d.1;
      text = x;
      fits = digits-len lo hi f v t.1;
      needed = λ h. go (length f) h (ap (λ (l : List ℕ). get_or l 0 0) x) (rw (lt-ltb 1 (length f) h) at t.0);
    }
  where
    go : (n : ℕ) → 1 < n → get_or f 0 0 ≡ get_or (print_fixed n v) 0 0 → eqb (get_or f 0 0) 48 ≡ false → 10 ^ (n - 1) ≤ v
    go zero h q r = let z : ⊥ = omega arith in absurd z
    go (suc k) h q r = rw sub-one (lead v (10 ^ k) (λ z. eqb-false (get_or f 0 0) 48 r (q ∙ first k v ∙ z)))

no_zero : (n v : ℕ) → v < 10 ^ n → (1 < n → 10 ^ (n - 1) ≤ v) → (ltb 1 n && eqb (get_or (print_fixed n v) 0 0) 48) ≡ false
no_zero zero v h k = refl
no_zero (suc zero) v h k = refl
no_zero (suc (suc n)) v h k =
    let l : 1 < suc (suc n) = omega arith in
    let m : 10 ^ suc n ≤ v = rw sub-one at (k l) in
    let o : v < 10 ^ suc n * 10 = rw pow-suc at h in
    rw (lt-ltb 1 (suc (suc n)) l) (ne_eqb (get_or (print_fixed (suc (suc n)) v) 0 0) 48
    (λ e. lead-back v (10 ^ suc n) (one-le-pow (suc n) 10 (lit< tt)) m o (sym (first (suc n) v) ∙ e)))

-- Such a text is read so.
pub text-plain : (lo hi : ℕ) (f : List ℕ) (v : ℕ) → hi ≤ 9 → PlainText lo hi f v → plain_of lo hi f ≡ Some v
unfolding plain_of
text-plain lo hi f v h p =
    rw (p.text, length-fixed p.width v, no_zero p.width v p.fits p.needed)
    (digits-read lo hi p.width v p.from p.to (le_trans p.to h) p.fits)

-- A rate that was read is from 1200 to 115200.
pub rate-range : (f : List ℕ) (v : ℕ) → rate_of f ≡ Some v → (1200 ≤ v) × (v ≤ 115200)
unfolding rate_of
rate-range f v e = let t = within-range 1200 115200 (plain_of 4 6 f) v e in (t.1, t.2)

-- A code that was read is at most 255.
pub code-range : (f : List ℕ) (v : ℕ) → code_of f ≡ Some v → v ≤ 255
unfolding code_of
code-range f v e = (within-range 0 255 (plain_of 1 3 f) v e).2

-- A rate that was read is a number from 1200 to 115200 without leading zeros.
pub rate-text : (f : List ℕ) (v : ℕ) → rate_of f ≡ Some v → ((1200 ≤ v) × (v ≤ 115200)) × PlainText 4 6 f v
unfolding rate_of
rate-text f v e = let t = within-range 1200 115200 (plain_of 4 6 f) v e in ((t.1, t.2), plain-text 4 6 f v t.0)

-- And each such text is read so.
pub text-rate : (f : List ℕ) (v : ℕ) → 1200 ≤ v → v ≤ 115200 → PlainText 4 6 f v → rate_of f ≡ Some v
unfolding rate_of
text-rate f v h k p = rw (text-plain 4 6 f v (lit≤ tt) p) (within-yes 1200 115200 v h k)

-- A code that was read is a number from 0 to 255 without needless zeros.
pub code-text : (f : List ℕ) (v : ℕ) → code_of f ≡ Some v → (v ≤ 255) × PlainText 1 3 f v
unfolding code_of
code-text f v e = let t = within-range 0 255 (plain_of 1 3 f) v e in (t.2, plain-text 1 3 f v t.0)

-- And each such text is read so.
pub text-code : (f : List ℕ) (v : ℕ) → v ≤ 255 → PlainText 1 3 f v → code_of f ≡ Some v
unfolding code_of
text-code f v k p = rw (text-plain 1 3 f v (lit≤ tt) p) (within-yes 0 255 v (omega arith) k)
