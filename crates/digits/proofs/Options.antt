-- What is there was let through by its test, and nothing is not something: by cases of the test.
use Prim.Native.Nat.{ℕ}
use mathlib.Core.Path.{◌≡◌, refl}
use mathlib.Core.Bool.{Bool, true, false, cond}
use Rattle.std.specs.Prelude.{Option, None, Some}
use native.Mathlib.Omega.{arith}
use Rattle.std.proofs.lemmas.Option.{same_Some}

module _ {A : Type 0} where
  -- What is there was let through.
  pub through : (t : Bool) (o : Option A) (v : A) → cond t o None ≡ Some v → (t ≡ true) × (o ≡ Some v)
  through true o v e = (refl, e)
  through false o v e = (cc, cc)

  -- Nothing is not something.
  pub nothing : {P : Type 0} (v : A) → ◌≡◌ {A = Option A} None (Some v) → P
  nothing v e = let z : ◌≡◌ {A = ℕ} 0 1 = cc in let w : ⊥ = omega arith in absurd w

  -- Of two values that are there and one, each is the other.
  pub some-injective : (x y : A) → Some x ≡ Some y → x ≡ y
  some-injective x y e = same_Some x y e
