-- The first line of `new` that is new or no longer as it was in `old`, counted from 1.
use Rattle.std.specs.Prelude.{ℕ, suc, ◌+◌, ◌-◌, ◌≤◌, ◌<◌, ◌≡◌, List, [], ◌∷◌, cond, ◌⊎◌, length, get_or}
use Rattle.digits.specs.Same.{same}

-- How many lines at the start are the same.
unfoldable pub alike : List (List ℕ) → List (List ℕ) → ℕ
alike [] new = 0
alike (l ∷ old) [] = 0
alike (l ∷ old) (m ∷ new) = cond (same l m) (suc (alike old new)) 0

unfoldable pub first_new : List (List ℕ) → List (List ℕ) → ℕ
first_new old new = alike old new + 1

-- Line k, counted from 1.
abbrev pub line_of : List (List ℕ) → ℕ → List ℕ
line_of ls k = get_or ls (k - 1) []

-- The same in words: k is a line of `new`; each line before it is in both and the same; k itself differs, or `old` has no line k.
pub record IsFirstNew (old new : List (List ℕ)) (k : ℕ) : Type 0 where
  pub from_one : 1 ≤ k
  pub there : k ≤ length new
  pub alike-before : (i : ℕ) → 1 ≤ i → i < k → (i ≤ length old) × (line_of new i ≡ line_of old i)
  pub differs : (length old < k) ⊎ (line_of new k ≡ line_of old k → ⊥)
