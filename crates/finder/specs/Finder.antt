-- The line finder, fed byte by byte: each `$` starts a new line and discards an unfinished one; LF ends it.
use Rattle.std.specs.Prelude.{ℕ, ◌+◌, List, [], ◌∷◌, ◌++◌, Bool, false, cond, ◌&&◌, ◌||◌, length, leb, eqb}
use Rattle.finder.specs.declared.Fed.{Fed}

-- Some byte of h is x.
unfoldable pub has : ℕ → List ℕ → Bool
has x [] = false
has x (b ∷ h) = eqb b x || has x h

-- The bytes of h after the last x in it; all of them where there is none.
unfoldable pub after_last : ℕ → List ℕ → List ℕ
after_last x [] = []
after_last x (b ∷ h) = cond (has x h) (after_last x h) (cond (eqb b x) h (b ∷ h))

-- The bytes of h from the last x in it on; none where there is none.
unfoldable pub from_last : ℕ → List ℕ → List ℕ
from_last x [] = []
from_last x (b ∷ h) = cond (has x h) (from_last x h) (cond (eqb b x) (b ∷ h) [])

-- The unfinished line after the bytes h: from the last `$` on, if it came after the previous LF (or the start).
unfoldable pub open_line : List ℕ → List ℕ
open_line h = from_last 36 (after_last 10 h)

-- What is given out at the byte b after the bytes h, [] for nothing: a line is given out at its LF exactly if a `$` came after the
-- previous LF (or the start) and the bytes from the last `$` through the LF number at most 82.
unfoldable pub given : List ℕ → ℕ → List ℕ
given h b = cond (eqb b 10 && (leb 1 (length (open_line h)) && leb (length (open_line h) + 1) 82)) (open_line h ++ b ∷ []) []

-- All lines given out at the bytes s after the bytes h, in order.
unfoldable pub given_all : List ℕ → List ℕ → List (List ℕ)
given_all h [] = []
given_all h (b ∷ s) = cond (leb 1 (length (given h b))) (given h b ∷ given_all (h ++ b ∷ []) s) (given_all (h ++ b ∷ []) s)

-- The finder's step on numbers. It holds how many bytes the unfinished line has: 0 where there is none, or one that cannot end
-- within 82 bytes any more. A byte gives the number held next, and the length of the line that ends with it, 0 for none.
unfoldable pub held_next : ℕ → ℕ → ℕ
held_next n b = cond (eqb b 36) 1 (cond (eqb b 10) 0 (cond (leb 1 n && leb n 80) (n + 1) 0))

unfoldable pub ends_here : ℕ → ℕ → ℕ
ends_here n b = cond (eqb b 10 && (leb 1 n && leb n 81)) (n + 1) 0

abbrev pub fed_of : ℕ → ℕ → Fed
fed_of n b = record { held = held_next n b; line = ends_here n b }

-- The number held after the bytes s, from n on.
unfoldable pub held_after : ℕ → List ℕ → ℕ
held_after n [] = n
held_after n (b ∷ s) = held_after (held_next n b) s
