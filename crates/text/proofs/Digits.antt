-- The digits of a number are the same whatever room there is for more of them: by going along the digits, from the last.
use Prim.Native.Nat.{ℕ, zero, suc, ◌+◌, ◌/◌, ◌%◌, ◌^◌, ◌≤◌, ◌<◌}
use mathlib.Core.Path.{◌≡◌, ap}
use mathlib.Core.List.{List, [], ◌∷◌, ◌++◌}
use mathlib.Core.Bool.{cond}
use native.Mathlib.Omega.{arith}
use native.Mathlib.Nat.{pow-suc}
use lib.Dec.{ltb}
use borrow.Author.Tests.{lt-ltb, le-ltb}
use Rattle.text.specs.Numbers.{digits_within, decimal_text}

one_more : (w n : ℕ) → n < 10 ^ suc w → digits_within (suc (suc w)) n ≡ digits_within (suc w) n
unfolding digits_within
one_more zero n h = rw (lt-ltb n 10 h)
one_more (suc w) n h =
    ap (λ (s : List ℕ). cond (ltb n 10) [] s ++ ((48 + n % 10) ∷ [])) (one_more w (n / 10) (omega (arith, pow-suc 10 (suc w))))

-- A number of one digit, and the digits of a number before its last.
pub last-digit : (n : ℕ) → n < 10 → (48 + n % 10) ∷ [] ≡ decimal_text n
unfolding decimal_text digits_within
last-digit n h = rw (lt-ltb n 10 h)

pub digits-before : (n : ℕ) → 10 ≤ n → n < 2 ^ 64 → decimal_text (n / 10) ++ ((48 + n % 10) ∷ []) ≡ decimal_text n
unfolding decimal_text digits_within
digits-before n l h = rw (le-ltb n 10 l) (ap (λ (s : List ℕ). s ++ ((48 + n % 10) ∷ [])) (one_more 18 (n / 10) (omega (arith, h))))
