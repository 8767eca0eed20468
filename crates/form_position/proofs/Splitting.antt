-- The minutes of a position, and what stands behind their point, by the rest of a division.
use Prim.Native.Nat.{◌%◌, ◌/◌, ℕ}
use mathlib.Core.Path.{◌≡◌}
use native.Mathlib.Omega.{arith}

-- The minutes of an angle and their parts, of what is left of the degrees.
pub arc-minutes : (v : ℕ) → v % 600000 / 10000 ≡ v / 10000 % 60
arc-minutes v = omega arith

pub arc-parts : (v : ℕ) → v % 600000 % 10000 ≡ v % 10000
arc-parts v = omega arith
