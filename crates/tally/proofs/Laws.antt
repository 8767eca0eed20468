-- The bytes passed over, one after another.
use Prim.Native.Nat.{ℕ}
use mathlib.Core.Path.{◌≡◌, refl}
use mathlib.Core.List.{[], ◌∷◌, List}
use Rattle.std.specs.List.{fold}
use Rattle.tally.specs.declared.Tally.{Tally}
use Rattle.tally.specs.Tally.{pass_all, pass_one}

pub pass-fold : (t : Tally) (s : List ℕ) → fold pass_one t s ≡ pass_all t s
unfolding pass_all
pass-fold t [] = refl
pass-fold t (b ∷ s) = pass-fold (pass_one t b) s
