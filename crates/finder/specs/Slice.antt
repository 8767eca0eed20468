-- The finder over a lent slice: the first line of the bytes from a place on.
use Rattle.std.specs.Prelude.{ℕ, ◌+◌, ◌-◌, List, [], ◌∷◌, Bool, true, false, drop, leb}
use Rattle.finder.specs.declared.Found.{Found}
use Rattle.finder.specs.Finder.{held_next, ends_here}

abbrev pub pick_found : Bool → Found → Found → Found
pick_found true a b = a
pick_found false a b = b

-- With n bytes held before place i, whose bytes from there on are s: the first line that ends there, from start up to end; or
-- none, and then start is where the bytes held begin.
unfoldable pub found_from : ℕ → ℕ → List ℕ → Found
found_from n i [] = record { line = false; start = i - n; end = i }
found_from n i (b ∷ s) =
    pick_found (leb 1 (ends_here n b)) (record { line = true; start = i + 1 - ends_here n b; end = i + 1 })
    (found_from (held_next n b) (i + 1) s)

unfoldable pub found_at : List ℕ → ℕ → Found
found_at s at = found_from 0 at (drop at s)
