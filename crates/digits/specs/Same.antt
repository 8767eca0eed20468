-- Bytes compared with bytes.
use Rattle.std.specs.Prelude.{ℕ, List, [], ◌∷◌, Bool, true, false, ◌&&◌, eqb}

unfoldable pub same : List ℕ → List ℕ → Bool
same [] [] = true
same [] (c ∷ m) = false
same (b ∷ l) [] = false
same (b ∷ l) (c ∷ m) = eqb b c && same l m
