-- How many lines and entries so many satellites take, in numbers: one line for none, else the quotient rounded up; on a line four entries,
-- or those that are left.
use Prim.Native.Nat.{ℕ, zero, suc, ◌+◌, ◌-◌, ◌*◌, ◌/◌, ◌≤◌, ◌<◌}
use mathlib.Core.Path.{◌≡◌, refl}
use mathlib.Core.Bool.{Bool, true, false}
use native.Mathlib.Omega.{arith}
use lib.Dec.{ltb, lit≤}
use borrow.Author.Tests.{ne_eqb, le-ltb, lt-ltb, ltb-true, ltb-false}
use Rattle.sky.specs.Group.{lines_for, entries_at}

module _ (n k : ℕ) where
  pub at_none : n ≤ 4 * (k - 1) → 0 ≡ entries_at n k
  unfolding entries_at
  at_none h = rw (le-ltb 4 (n - 4 * (k - 1)) (omega arith)) (omega arith)

  pub at-four : 4 < n - 4 * (k - 1) → 4 ≡ entries_at n k
  unfolding entries_at
  at-four h = rw (lt-ltb 4 (n - 4 * (k - 1)) h)

  pub at_left : n - 4 * (k - 1) ≤ 4 → n - 4 * (k - 1) ≡ entries_at n k
  unfolding entries_at
  at_left h = rw (le-ltb 4 (n - 4 * (k - 1)) h)

either : (n : ℕ) (P : ℕ → Type 0) → (n ≡ 0 → P 1) → (1 ≤ n → P ((n + 3) / 4)) → P (lines_for n)
unfolding lines_for
either zero P a b = a refl
either (suc n) P a b = rw (ne_eqb (suc n) 0 (λ e. omega arith)) (b (omega arith))

module _ (n : ℕ) where
  pub some-line : 1 ≤ lines_for n
  some-line = either n (λ m. 1 ≤ m) (λ e. lit≤ tt) (λ h. omega arith)

  pub nine-lines : n ≤ 36 → lines_for n ≤ 9
  nine-lines h = either n (λ m. m ≤ 9) (λ e. lit≤ tt) (λ p. omega arith)

  pub few-satellites : lines_for n ≤ 9 → n ≤ 36
  few-satellites = either n (λ m. m ≤ 9 → n ≤ 36) (λ e h. omega arith) (λ p h. omega arith)

  -- The lines have room for all, and a line before or at the last starts at one of them or at their end.
  pub room : n ≤ 4 * lines_for n
  room = either n (λ m. n ≤ 4 * m) (λ e. omega arith) (λ p. omega arith)

  pub starts : (k : ℕ) → 1 ≤ k → k ≤ lines_for n → 4 * (k - 1) ≤ n
  starts k a = either n (λ m. k ≤ m → 4 * (k - 1) ≤ n) (λ e h. omega arith) (λ p h. omega arith)

  -- Line k has four entries, or those that are left.
  pub entries-at : (k : ℕ) → entries_at n k ≡ n - 4 * (k - 1) - (n - 4 * (k - 1) - 4)
  entries-at k = go (ltb 4 (n - 4 * (k - 1))) refl
    where
      go : (b : Bool) → ltb 4 (n - 4 * (k - 1)) ≡ b → entries_at n k ≡ n - 4 * (k - 1) - (n - 4 * (k - 1) - 4)
      go true q = let h = ltb-true 4 (n - 4 * (k - 1)) q in omega (arith, h, at-four n k h)
      go false q = let h = ltb-false 4 (n - 4 * (k - 1)) q in omega (arith, h, at_left n k h)
