-- Numbers over a base: one digit more is one power of the base more, up by products and down by quotients.
use Prim.Native.Nat.{ℕ, suc, ◌+◌, ◌*◌, ◌/◌, ◌^◌, ◌<◌}
use mathlib.Core.Path.{◌≡◌}
use native.Mathlib.Nat.{pow-suc, div-div-eq-div-mul, mul_comm, add-mul, mul_assoc, add_assoc}
use native.Mathlib.Numerals.{add-one}
use lib.Arith.{digits_lt}

module _ (b : ℕ) where
  -- One digit more is below one power more.
  pub step-lt : (i : ℕ) {n d : ℕ} → n < b ^ i → d < b → n * b + d < b ^ (i + 1)
  step-lt i {n} {d} h k = rw (add-one, pow-suc) (digits_lt h k)

  -- One digit less is one power less.
  pub div-pow : (v k : ℕ) → v / b / b ^ k ≡ v / b ^ suc k
  div-pow v k = rw (div-div-eq-div-mul, pow-suc, mul_comm b (b ^ k))

  -- A digit behind a number of two parts.
  pub sum-up : (n d c r : ℕ) → (n * c + r) * b + d ≡ n * (c * b) + (r * b + d)
  sum-up n d c r = rw (add-mul, mul_assoc, add_assoc)
