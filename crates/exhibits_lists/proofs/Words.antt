-- Blanks and words as they are found, each by the place of the first byte of the other sort.
use Prim.Native.Nat.{◌+◌, ℕ}
use mathlib.Core.Bool.{false, true}
use mathlib.Core.List.{◌∷◌, List}
use mathlib.Core.Path.{◌≡◌}
use Rattle.exhibits_lists.specs.Lists.{blanks, is_blank, width}

module _ (b : ℕ) (s : List ℕ) where
  pub blanks-on : is_blank b ≡ true → blanks (b ∷ s) ≡ blanks s + 1
  unfolding blanks
  blanks-on e = rw e

  pub blanks-stop : is_blank b ≡ false → blanks (b ∷ s) ≡ 0
  unfolding blanks
  blanks-stop e = rw e

  pub width-on : is_blank b ≡ false → width (b ∷ s) ≡ width s + 1
  unfolding width
  width-on e = rw e

  pub width-stop : is_blank b ≡ true → width (b ∷ s) ≡ 0
  unfolding width
  width-stop e = rw e
