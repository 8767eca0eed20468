-- The finder's step by cases of its byte and of the number held, and the slice finder one byte on.
use Prim.Native.Nat.{ℕ, ◌+◌, ◌-◌, ◌≤◌, ◌<◌}
use mathlib.Core.Path.{◌≡◌, refl}
use mathlib.Core.List.{List, [], ◌∷◌}
use mathlib.Core.Bool.{Bool, true, false, cond, ◌&&◌}
use native.Mathlib.Omega.{arith}
use lib.ListN.{length, drop, drop_of_length-le}
use lib.Dec.{leb, eqb}
use borrow.Author.Tests.{ne_eqb, le-leb, lt-leb, leb-true, leb-false}
use Rattle.finder.specs.declared.Fed.{Fed}
use Rattle.finder.specs.declared.Found.{Found}
use Rattle.finder.specs.Finder.{held_next, ends_here, fed_of}
use Rattle.finder.specs.Slice.{pick_found, found_from}

abbrev fed : ℕ → ℕ → Fed
fed n l = record { held = n; line = l }

pub feed-dollar : (n b : ℕ) → b ≡ 36 → fed 1 0 ≡ fed_of n b
unfolding held_next ends_here
feed-dollar n b e = rw e

nothing : (t : Bool) (k : ℕ) → fed 0 0 ≡ fed (cond t 0 0) (cond (t && false) k 0)
nothing true k = refl
nothing false k = refl

module _ (n b : ℕ) (d : b ≡ 36 → ⊥) where
  pub feed-none : n < 1 → fed 0 0 ≡ fed_of n b
  unfolding held_next ends_here
  feed-none h = simp (ne_eqb b 36 d, lt-leb 1 n h) (nothing (eqb b 10) (n + 1))

  pub feed-over : 81 < n → fed 0 0 ≡ fed_of n b
  unfolding held_next ends_here
  feed-over h =
      let k : 1 ≤ n = omega arith in
      let j : 80 < n = omega arith in
      simp (ne_eqb b 36 d, le-leb 1 n k, lt-leb n 80 j, lt-leb n 81 h) (nothing (eqb b 10) (n + 1))

  pub feed-lf : 1 ≤ n → n ≤ 81 → b ≡ 10 → fed 0 (n + 1) ≡ fed_of n b
  unfolding held_next ends_here
  feed-lf k h e = rw e (simp (le-leb 1 n k, le-leb n 81 h))

  module _ (l : b ≡ 10 → ⊥) where
    pub feed-full : n ≡ 81 → fed 0 0 ≡ fed_of n b
    unfolding held_next ends_here
    feed-full e = rw e (simp (ne_eqb b 36 d, ne_eqb b 10 l))

    pub feed-more : 1 ≤ n → n ≤ 80 → fed (n + 1) 0 ≡ fed_of n b
    unfolding held_next ends_here
    feed-more k h = simp (ne_eqb b 36 d, ne_eqb b 10 l, le-leb 1 n k, le-leb n 80 h)

-- A byte adds at most one byte to what is held, and the line that it ends is at most one byte longer than what was held.
pub held-le : (n b : ℕ) → held_next n b ≤ n + 1
unfolding held_next
held-le n b = go (eqb b 36) (eqb b 10) (leb 1 n && leb n 80)
  where
    go : (t u v : Bool) → cond t 1 (cond u 0 (cond v (n + 1) 0)) ≤ n + 1
    go true u v = omega arith
    go false true v = omega arith
    go false false true = omega arith
    go false false false = omega arith

pub ends-le : (n b : ℕ) → ends_here n b ≤ n + 1
unfolding ends_here
ends-le n b = go (eqb b 10 && (leb 1 n && leb n 81))
  where
    go : (t : Bool) → cond t (n + 1) 0 ≤ n + 1
    go true = omega arith
    go false = omega arith

-- The slice finder at its next byte b, which ends a line or does not.
module _ (n i b : ℕ) (s : List ℕ) where
  pub from-line : 1 ≤ ends_here n b → found_from n i (b ∷ s) ≡ record { line = true; start = i + 1 - ends_here n b; end = i + 1 }
  unfolding found_from
  from-line h = simp (le-leb 1 (ends_here n b) h)

  pub from_more : ends_here n b < 1 → found_from n i (b ∷ s) ≡ found_from (held_next n b) (i + 1) s
  unfolding found_from
  from_more h = simp (lt-leb 1 (ends_here n b) h)

pub found-end : (n i : ℕ) (s : List ℕ) → length s ≤ i → record { line = false; start = i - n; end = i } ≡ found_from n i (drop i s)
unfolding found_from
found-end n i s h = rw (drop_of_length-le s h)

-- What holds at the end of the bytes, at a byte that ends a line, and at any other byte where it holds behind it, holds of every answer.
pub found-ind : (P : ℕ → ℕ → List ℕ → Found → Type 0) → ((n i : ℕ) → P n i [] (record { line = false; start = i - n; end = i }))
    → ((n i b : ℕ) (s : List ℕ) → 1 ≤ ends_here n b → P n i (b ∷ s) (record { line = true; start = i + 1 - ends_here n b; end = i + 1 }))
    → ((n i b : ℕ) (s : List ℕ) (r : Found) → ends_here n b < 1 → P (held_next n b) (i + 1) s r → P n i (b ∷ s) r) → (n i : ℕ) (s : List ℕ)
    → P n i s (found_from n i s)
unfolding found_from
found-ind P e l m n i [] = e n i
found-ind P e l m n i (b ∷ s) = go (leb 1 (ends_here n b)) refl (found-ind P e l m (held_next n b) (i + 1) s)
  where
    go : (t : Bool) → leb 1 (ends_here n b) ≡ t → P (held_next n b) (i + 1) s (found_from (held_next n b) (i + 1) s)
        → P n i (b ∷ s) (pick_found t (record { line = true; start = i + 1 - ends_here n b; end = i + 1 })
        (found_from (held_next n b) (i + 1) s))
    go true k x = l n i b s (leb-true 1 (ends_here n b) k)
    go false k x = m n i b s (found_from (held_next n b) (i + 1) s) (leb-false 1 (ends_here n b) k) x
