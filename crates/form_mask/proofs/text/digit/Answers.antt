-- The last digit of the last digit.
use mathlib.Core.Path.{◌∙◌, ◌≡◌, ap}
use native.Mathlib.Omega.{arith}
use Prim.Native.Nat.{◌%◌, ℕ}
use Rattle.digits.specs.Hex.{hex_of}
use Rattle.form_mask.proofs.text.digit.Goals as goal

twice : (v : ℕ) → v % 16 % 16 ≡ v % 16
twice v = omega arith

pub returns : goal.returns
returns c = c.hex_of.ensures ∙ ap hex_of (twice c.args.v)
