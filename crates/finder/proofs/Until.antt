-- The slice finder keeps the place that a line must end before, in place of the number of bytes held: the same step on it.
use Prim.Native.Nat.{ℕ, suc, ◌+◌, ◌-◌, ◌≤◌, ◌<◌}
use mathlib.Core.Path.{◌≡◌, refl, sym, ◌∙◌}
use mathlib.Core.List.{List}
use mathlib.Core.Bool.{Bool, true, false, cond, ◌&&◌}
use native.Mathlib.Omega.{arith}
use native.Mathlib.Numerals.{add-one}
use lib.ListN.{length, get_or, drop}
use lib.Seq.{drop-cons}
use lib.Dec.{leb, eqb}
use borrow.Author.Tests.{ne_eqb, le-leb, lt-leb, leb-true, leb-false}
use Rattle.finder.specs.Finder.{held_next, ends_here}
use Rattle.finder.specs.Slice.{found_from}
use Rattle.finder.specs.Until.{held_in, ended_in, reach_of}
use Rattle.finder.proofs.Laws.{held-le, from-line, from_more}

pub held_low : (u i : ℕ) → u ≤ i → held_in u i ≡ 0
unfolding held_in
held_low u i h = simp (le-leb u i h)

pub held_high : (u i : ℕ) → i < u → held_in u i ≡ 82 - (u - i)
unfolding held_in
held_high u i h = simp (lt-leb u i h)

-- A line can end before u, which is at most 81 places on.
module _ (u i : ℕ) (k : u ≤ i + 81) where
  short : held_in u i ≤ 81
  short = go (leb u i) refl
    where
      go : (t : Bool) → leb u i ≡ t → held_in u i ≤ 81
      go true e = omega (arith, held_low u i (leb-true u i e))
      go false e = let h = leb-false u i e in omega (arith, held_high u i h)

  -- one byte more of the line
  grown : cond (leb 1 (held_in u i) && leb (held_in u i) 80) (held_in u i + 1) 0 ≡ held_in u (i + 1)
  grown = go (leb u i) refl (leb u (i + 1)) refl
    where
      go : (t : Bool) → leb u i ≡ t → (v : Bool) → leb u (i + 1) ≡ v
          → cond (leb 1 (held_in u i) && leb (held_in u i) 80) (held_in u i + 1) 0 ≡ held_in u (i + 1)
      go true e v f = let h = leb-true u i e in rw (held_low u i h, held_low u (i + 1) (omega arith))
      go false e true f =
          let h = leb-false u i e in
          let j = leb-true u (i + 1) f in
          let n : held_in u i ≡ 81 = held_high u i h ∙ omega arith in
          rw (n, held_low u (i + 1) j)
      go false e false f =
          let h = leb-false u i e in
          let j = leb-false u (i + 1) f in
          let n = held_high u i h in
          let m = held_high u (i + 1) j in
          let a : 1 ≤ held_in u i = omega arith in
          let b : held_in u i ≤ 80 = omega arith in
          simp (le-leb 1 (held_in u i) a, le-leb (held_in u i) 80 b) (omega arith)

  pub ended-le : (b : ℕ) → ended_in u i b ≤ held_in u i
  ended-le b = go (eqb b 10)
    where
      go : (t : Bool) → cond t (held_in u i) 0 ≤ held_in u i
      go true = omega arith
      go false = omega arith

  pub reach-le : (b : ℕ) → reach_of u (i + 82) b ≤ i + 1 + 81
  reach-le b = go (eqb b 36)
    where
      go : (t : Bool) → cond t (i + 82) u ≤ i + 1 + 81
      go true = omega arith
      go false = omega arith

  -- A byte that ends no line.
  pub held_on : (b : ℕ) → ended_in u i b ≤ 0 → (ends_here (held_in u i) b < 1)
      × (held_next (held_in u i) b ≡ held_in (reach_of u (i + 82) b) (i + 1))
  unfolding ends_here held_next
  held_on b = go (eqb b 36) refl (eqb b 10) refl
    where
      go : (t : Bool) → eqb b 36 ≡ t → (v : Bool) → eqb b 10 ≡ v → cond v (held_in u i) 0 ≤ 0
          → (cond (v && (leb 1 (held_in u i) && leb (held_in u i) 81)) (held_in u i + 1) 0 < 1)
          × (cond t 1 (cond v 0 (cond (leb 1 (held_in u i) && leb (held_in u i) 80) (held_in u i + 1) 0)) ≡ held_in (cond t (i + 82) u) (i + 1))
      go true d true l h = let z = lt-leb 1 (held_in u i) (omega arith) in
          (simp z (omega arith), sym (held_high (i + 82) (i + 1) (omega arith) ∙ omega arith))
      go true d false l h = (omega arith, sym (held_high (i + 82) (i + 1) (omega arith) ∙ omega arith))
      go false d true l h = let z = lt-leb 1 (held_in u i) (omega arith) in (simp z (omega arith), simp z at grown)
      go false d false l h = (omega arith, grown)

-- The slice finder at place i of s, where n is what the byte there ends.
module _ (u i : ℕ) (s : List ℕ) (h : i < length s) (k : u ≤ i + 81) where
  pub more : ended_in u i (get_or s i 0) ≤ 0
      → found_from (held_in u i) i (drop i s) ≡ found_from (held_in (reach_of u (i + 82) (get_or s i 0)) (i + 1)) (i + 1) (drop (i + 1) s)
  more z =
      let p = held_on u i k (get_or s i 0) z in
      rw (drop-cons s i 0 h) (from_more (held_in u i) i (get_or s i 0) (drop (suc i) s) p.0 ∙ rw (p.1, add-one))

  -- no more is held than bytes that were passed
  pub within : ended_in u i (get_or s i 0) ≤ 0 → held_in u i ≤ i → held_in (reach_of u (i + 82) (get_or s i 0)) (i + 1) ≤ i + 1
  within z l = rw (← (held_on u i k (get_or s i 0) z).1) (omega (arith, held-le (held_in u i) (get_or s i 0)))

  -- A byte past `$` ends none, and starts none.
  module _ (g : 36 < get_or s i 0) where
    plain-ends : ended_in u i (get_or s i 0) ≤ 0
    plain-ends = simp (ne_eqb (get_or s i 0) 10 (λ e. omega arith)) (omega arith)

    plain-reach : reach_of u (i + 82) (get_or s i 0) ≡ u
    plain-reach = simp (ne_eqb (get_or s i 0) 36 (λ e. omega arith))

    pub plain : found_from (held_in u i) i (drop i s) ≡ found_from (held_in u (i + 1)) (i + 1) (drop (i + 1) s)
    plain = more plain-ends ∙ rw plain-reach

    pub plain-within : held_in u i ≤ i → held_in u (i + 1) ≤ i + 1
    plain-within l = rw plain-reach at (within plain-ends l)

  pub line_at : (n : ℕ) → n ≡ ended_in u i (get_or s i 0) → 0 < n
      → record { line = true; start = i - n; end = i + 1 } ≡ found_from (held_in u i) i (drop i s)
  unfolding ends_here
  line_at n e l = go (eqb (get_or s i 0) 10) refl e
    where
      go : (t : Bool) → eqb (get_or s i 0) 10 ≡ t → n ≡ cond t (held_in u i) 0
          → record { line = true; start = i - n; end = i + 1 } ≡ found_from (held_in u i) i (drop i s)
      go false q e = let z : ⊥ = omega arith in absurd z
      go true q e =
          let a : 1 ≤ held_in u i = omega arith in
          let m : ends_here (held_in u i) (get_or s i 0) ≡ held_in u i + 1 =
          simp (q, le-leb 1 (held_in u i) a, le-leb (held_in u i) 81 (short u i k)) in
          let j : i + 1 - (held_in u i + 1) ≡ i - n = omega arith in
          rw (drop-cons s i 0 h) (sym (from-line (held_in u i) i (get_or s i 0) (drop (suc i) s) (omega arith) ∙ rw (m, j)))
