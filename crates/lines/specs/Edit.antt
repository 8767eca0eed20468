-- One byte changed to a different one, dropped, or added, at any place.
use Rattle.std.specs.Prelude.{ℕ, ◌≡◌, List, ◌∷◌, ◌++◌}

pub data OneByte : List ℕ → List ℕ → Type 0 where
  changed : (p s : List ℕ) (x y : ℕ) → (x ≡ y → ⊥) → OneByte (p ++ x ∷ s) (p ++ y ∷ s)
  dropped : (p s : List ℕ) (x : ℕ) → OneByte (p ++ x ∷ s) (p ++ s)
  added : (p s : List ℕ) (x : ℕ) → OneByte (p ++ s) (p ++ x ∷ s)
