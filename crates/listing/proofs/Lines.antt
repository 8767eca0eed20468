-- What goes over the lines of a buffer knows of the next of them.
use Prim.Native.Nat.{ℕ, ◌≤◌}
use mathlib.Core.Path.{◌∙◌, ◌≡◌, ap, sym}
use mathlib.Core.Bool.{true}
use mathlib.Core.List.{List, []}
use lib.ListN.{length, take}
use Rattle.finder.specs.declared.Found.{Found}
use Rattle.finder.specs.Finder.{open_line}
use Rattle.finder.specs.Slice.{found_at}
use Rattle.finder.proofs.SliceLines.{NextLine, slice-line, slice-within}

module _ (s : List ℕ) (at : ℕ) (r : Found) (e : r ≡ found_at s at) where
  -- A line that was found lies in `s`, and past it no line is open.
  pub at-line : open_line (take at s) ≡ [] → r.line ≡ true → NextLine s at r
  at-line o f = rw e (slice-line _ _ o (sym (ap (λ (q : Found). q.line) e) ∙ f))

  -- A line or the bytes of one begin behind the place, and end behind their beginning, within `s`.
  pub within : at ≤ length s → (at ≤ r.start) × (r.start ≤ r.end) × (r.end ≤ length s)
  within h = rw e (slice-within _ _ h)
