-- A list that a rule fills has the rule's value at each place: by steps of the place.
use Prim.Native.Nat.{ℕ, zero, suc, ◌+◌, ◌<◌}
use mathlib.Core.Path.{◌≡◌, ◌∙◌, ap}
use mathlib.Core.List.{List, [], ◌∷◌}
use native.Mathlib.Omega.{arith}
use lib.ListN.{get_or}

-- f k, f (k + 1), and so on: n of them
abbrev pub filled : (ℕ → ℕ) → ℕ → ℕ → List ℕ
filled f k zero = []
filled f k (suc n) = f k ∷ filled f (suc k) n

-- What stands at place b.
pub filled_at : (f : ℕ → ℕ) (k n b : ℕ) → b < n → get_or (filled f k n) b 0 ≡ f (k + b)
filled_at f k zero b h = let z : ⊥ = omega arith in absurd z
filled_at f k (suc n) zero h = ap f (omega arith)
filled_at f k (suc n) (suc b) h = filled_at f (suc k) n b (omega arith) ∙ ap f (omega arith)
