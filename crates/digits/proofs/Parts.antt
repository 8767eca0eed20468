-- A part of a slice, as the code takes it and as a definition says it: only the count is said in two ways.
use Prim.Native.Nat.{ℕ, ◌+◌, ◌-◌}
use mathlib.Core.Path.{◌≡◌}
use mathlib.Core.List.{List}
use native.Mathlib.Nat.{le_refl, sub-zero, add-sub_cancel_left}
use lib.ListN.{length, take, drop, length-drop}
use lib.Seq.{take_all}

module _ (s : List ℕ) (k : ℕ) where
  -- From k to the end.
  pub rest : take (length s - k) (drop k s) ≡ drop k s
  rest = take_all (length s - k) (drop k s) (rw length-drop (le_refl _))

  -- From the start to k.
  pub front : take (k - 0) s ≡ take k s
  front = rw sub-zero

  -- As many as w, from k on.
  pub middle : (w : ℕ) → take (k + w - k) (drop k s) ≡ take w (drop k s)
  middle w = rw add-sub_cancel_left
