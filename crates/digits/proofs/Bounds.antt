-- How large digits that were read can be: each digit more is one power of ten more.
use Prim.Native.Nat.{ℕ, suc, ◌+◌, ◌-◌, ◌*◌, ◌^◌, ◌≤◌, ◌<◌}
use mathlib.Core.Path.{◌≡◌}
use mathlib.Core.List.{List, [], ◌∷◌}
use mathlib.Core.Bool.{true, ◌&&◌}
use Rattle.std.specs.Prelude.{Some}
use native.Mathlib.Omega.{arith}
use native.Mathlib.Nat.{lt_of_lt_of_le, pow-le-pow_right, zero-add, add-zero}
use lib.Dec.{leb, lit<}
use lib.ListN.{length}
use borrow.Author.Tests.{leb-true}
use Rattle.digits.specs.Decimal.{is_digit, digits_from, digits_of}
use Rattle.digits.proofs.Bools.{and_left, and_right}
use Rattle.digits.proofs.Options.{through}
use Rattle.digits.proofs.Powers.{step-lt}

-- A digit is one of 0-9.
pub digit-range : (b : ℕ) → is_digit b ≡ true → (48 ≤ b) × (b ≤ 57)
unfolding is_digit
digit-range b e = (leb-true 48 b (and_left _ _ e), leb-true b 57 (and_right (leb 48 b) _ e))

from-lt : (s : List ℕ) (k acc v : ℕ) → acc < 10 ^ k → digits_from acc s ≡ Some v → v < 10 ^ (k + length s)
unfolding digits_from
from-lt [] k acc v h e = let p : acc ≡ v = cc in rw (add-zero, ← p) h
from-lt (b ∷ s) k acc v h e =
    let t = through _ _ _ e in
    let d : b - 48 < 10 = omega (arith, (digit-range b t.0).1) in
    let r : v < 10 ^ (k + 1 + length s) = from-lt s (k + 1) (acc * 10 + (b - 48)) v (step-lt 10 k h d) t.1 in
    let q : k + 1 + length s ≡ k + suc (length s) = omega arith in
    rw q at r

-- Nine digits are below a thousand million.
pub nine-lt : (s : List ℕ) (v : ℕ) → length s ≤ 9 → digits_from 0 s ≡ Some v → v < 1000000000
nine-lt s v h e = lt_of_lt_of_le (from-lt s 0 0 v (lit< tt) e) (pow-le-pow_right {n = 10} (lit< tt) {i = 0 + length s} {j = 9} (omega arith))

module _ (lo hi : ℕ) (s : List ℕ) (v : ℕ) (e : digits_of lo hi s ≡ Some v) where
  -- Digits that were read stand within the counts, and give the value.
  pub opened : ((leb lo (length s) && (leb (length s) hi && leb (length s) 9)) ≡ true) × (digits_from 0 s ≡ Some v)
  unfolding digits_of
  opened = through _ _ _ e

  -- The digits are as many as they may be.
  pub digits-count : (lo ≤ length s) × (length s ≤ hi)
  digits-count = (leb-true _ _ (and_left _ _ opened.0), leb-true _ _ (and_left _ _ (and_right (leb lo (length s)) _ opened.0)))

  -- As many digits as there are.
  pub digits-len : v < 10 ^ length s
  digits-len = let r : v < 10 ^ (0 + length s) = from-lt s 0 0 v (lit< tt) opened.1 in rw zero-add at r

  -- As many digits as there may be.
  pub digits_lt : v < 10 ^ hi
  digits_lt = lt_of_lt_of_le digits-len (pow-le-pow_right {n = 10} (lit< tt) digits-count.1)
