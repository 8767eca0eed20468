-- Hex digits from both sides: what a digit is, and that it gives its value back.
use Prim.Native.Nat.{ℕ, ◌+◌, ◌-◌, ◌≤◌, ◌<◌}
use mathlib.Core.Path.{◌≡◌, refl, sym, ◌∙◌, ap}
use mathlib.Core.Bool.{Bool, true, false}
use mathlib.Core.Logic.{◌⊎◌, inl, inr, ⊎_elim}
use native.Mathlib.Omega.{arith}
use lib.Dec.{ltb, leb}
use borrow.Author.Tests.{ltb-true, ltb-false, leb-true, lt-ltb, le-ltb, le-leb, lt-leb}
use Rattle.digits.specs.Hex.{hex_digit, hex_of, hex_value}
use Rattle.digits.proofs.Bools.{and_left, and_right, or_cases}

pub hex-cases : (n : ℕ) → ((n < 10) × (hex_of n ≡ n + 48)) ⊎ ((10 ≤ n) × (hex_of n ≡ n + 55))
unfolding hex_of
hex-cases n = go (ltb n 10) refl
  where
    go : (b : Bool) → ltb n 10 ≡ b → ((n < 10) × (hex_of n ≡ n + 48)) ⊎ ((10 ≤ n) × (hex_of n ≡ n + 55))
    go true e = inl (ltb-true n 10 e, simp e)
    go false e = inr (ltb-false n 10 e, simp e)

-- A digit has the value that it is the digit of.
pub value_of : (n : ℕ) → hex_value (hex_of n) ≡ n
unfolding hex_value
value_of n =
    ⊎_elim (λ p. rw p.1 (simp (le-leb (n + 48) 57 (omega arith)) (omega arith)))
    (λ p. rw p.1 (simp (lt-leb (n + 55) 57 (omega arith)) (omega arith))) (hex-cases n)

pub hex-inj : (a b : ℕ) → hex_of a ≡ hex_of b → a ≡ b
hex-inj a b e = sym (value_of a) ∙ ap hex_value e ∙ value_of b

-- The digit of a value below 16 is one.
pub hex-is : (n : ℕ) → n < 16 → hex_digit (hex_of n) ≡ true
unfolding hex_digit
hex-is n h =
    ⊎_elim (λ p. rw p.1 (simp (le-leb 48 (n + 48) (omega arith), le-leb (n + 48) 57 (omega arith)))) (λ p. rw p.1 (simp (
      le-leb 48 (n + 55) (omega arith),
      lt-leb (n + 55) 57 (omega arith),
      le-leb 65 (n + 55) (omega arith),
      le-leb (n + 55) 70 (omega arith),
    ))) (hex-cases n)

-- A digit is 0-9 or A-F.
pub hex-either : (b : ℕ) → hex_digit b ≡ true → ((48 ≤ b) × (b ≤ 57)) ⊎ ((65 ≤ b) × (b ≤ 70))
unfolding hex_digit
hex-either b e =
    ⊎_elim (λ p. inl (leb-true 48 b (and_left _ _ p), leb-true b 57 (and_right (leb 48 b) _ p)))
    (λ p. inr (leb-true 65 b (and_left _ _ p), leb-true b 70 (and_right (leb 65 b) _ p))) (or_cases _ _ e)

-- So it is no byte below 48.
pub hex-from-48 : (b : ℕ) → hex_digit b ≡ true → 48 ≤ b
hex-from-48 b e = ⊎_elim (λ p. p.0) (λ p. omega arith) (hex-either b e)

-- Its value is below 16.
pub hex-value-lt : (b : ℕ) → hex_digit b ≡ true → hex_value b < 16
unfolding hex_value
hex-value-lt b e =
    ⊎_elim (λ p. rw (le-leb b 57 p.1) (omega arith)) (λ p. rw (lt-leb b 57 (omega arith)) (omega arith)) (hex-either b e)

-- A digit is that of its value.
pub digit-of : (b : ℕ) → hex_digit b ≡ true → hex_of (hex_value b) ≡ b
unfolding hex_of hex_value
digit-of b e =
    ⊎_elim (λ p. rw (le-leb b 57 p.1, lt-ltb (b - 48) 10 (omega arith)) (omega arith))
    (λ p. rw (lt-leb b 57 (omega arith), le-ltb (b - 55) 10 (omega arith)) (omega arith)) (hex-either b e)
