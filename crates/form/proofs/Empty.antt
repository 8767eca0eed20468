-- A field that stays empty is never wrong.
use Prim.Native.Nat.{ℕ}
use mathlib.Core.Path.{◌≡◌, refl}
use Rattle.form.specs.Wrong.{near_of}

pub never-wrong : (n : ℕ) → near_of n 0 0 ≡ 0
unfolding near_of
never-wrong n = refl
