-- The cut: its first line and the rest, as a loop meets them, and that lines joined again are the bytes.
use Prim.Native.Nat.{ℕ, suc, ◌+◌, ◌-◌, ◌≤◌, ◌<◌}
use mathlib.Core.Path.{◌≡◌, refl, ◌∙◌, ap, ap₂}
use mathlib.Core.List.{List, [], ◌∷◌, ◌++◌}
use mathlib.Core.Bool.{Bool, true, false, cond}
use native.Mathlib.Omega.{arith}
use lib.ListN.{length, take, drop, drop_of_length-le, length-drop}
use lib.Seq.{drop-drop, take_all}
use Rattle.std.proofs.Common.{Some, None, Option}
use Rattle.std.specs.List.{position_from, slice_range}
use Rattle.std.specs.Option.{MatchOption}
use lib.Dec.{eqb}
use Rattle.lines.specs.Cut.{before, cut_rest, cut_lines, line_width, joined}

-- the width of the first line, by the place of the first LF
abbrev pub is_lf : ℕ → Bool
is_lf b = eqb b 10

pub width-at : (k : ℕ) (s : List ℕ) → MatchOption (position_from is_lf k s) (length s ≡ line_width s) (λ i. i + 1 ≡ k + line_width s)
unfolding line_width
width-at k [] = refl
width-at k (b ∷ s) = go (eqb b 10) (position_from is_lf (k + 1) s) (width-at (k + 1) s)
  where
    go : (t : Bool) (o : Option ℕ) → MatchOption o (length s ≡ line_width s) (λ i. i + 1 ≡ k + 1 + line_width s)
        → MatchOption (cond t (Some k) o) (suc (length s) ≡ cond t 1 (suc (line_width s))) (λ i. i + 1 ≡ k + cond t 1 (suc (line_width s)))
    go true o ih = refl
    go false None ih = ap suc ih
    go false (Some i) ih = omega arith

pub width-end : (s : List ℕ) (i : ℕ) → length s ≤ i → line_width (drop i s) ≡ 0
unfolding line_width
width-end s i h = rw (drop_of_length-le s h)

-- the bytes from a place on, as a part that ends with them
pub part-rest : (s : List ℕ) (i : ℕ) → slice_range s i (length s) ≡ drop i s
part-rest s i = take_all (length s - i) (drop i s) (rw (length-drop i s) (omega arith))

-- lines cut and joined again
joined-before : (b : ℕ) (ls : List (List ℕ)) → joined (before b ls) ≡ b ∷ joined ls
unfolding before
joined-before b [] = refl
joined-before b (l ∷ ls) = refl

joined-pick : (t : Bool) (x y : List (List ℕ)) (s : List ℕ) → joined x ≡ s → joined y ≡ s → joined (cond t x y) ≡ s
joined-pick true x y s p q = p
joined-pick false x y s p q = q

pub rest-joined : (s : List ℕ) → joined (cut_rest s) ≡ s
unfolding cut_rest
rest-joined [] = refl
rest-joined (b ∷ s) =
    let ih = ap (λ (t : List ℕ). b ∷ t) (rest-joined s) in
    joined-pick (eqb b 10) ((b ∷ []) ∷ cut_rest s) (before b (cut_rest s)) (b ∷ s) ih (joined-before b (cut_rest s) ∙ ih)

-- Bytes cut and joined again are the bytes.
pub cut-joined : (s : List ℕ) → joined (cut_lines s) ≡ s
unfolding cut_lines
cut-joined [] = refl
cut-joined (b ∷ s) = rest-joined (b ∷ s)

-- the bytes through the first LF, or all of them; and what is left
abbrev pub first_of : List ℕ → List ℕ
first_of [] = []
first_of (b ∷ s) = b ∷ cond (eqb b 10) [] (first_of s)

abbrev pub after_of : List ℕ → List ℕ
after_of [] = []
after_of (b ∷ s) = cond (eqb b 10) s (after_of s)

pub first-after : (s : List ℕ) → first_of s ++ after_of s ≡ s
first-after [] = refl
first-after (b ∷ s) = go (eqb b 10) (first-after s)
  where
    go : (t : Bool) → first_of s ++ after_of s ≡ s → (b ∷ cond t [] (first_of s)) ++ cond t s (after_of s) ≡ b ∷ s
    go true ih = refl
    go false ih = ap (λ (r : List ℕ). b ∷ r) ih

pub cut-first : (b : ℕ) (s : List ℕ) → cut_rest (b ∷ s) ≡ first_of (b ∷ s) ∷ cut_rest (after_of (b ∷ s))
unfolding cut_rest before
cut-first b [] = go (eqb b 10)
  where
    go : (t : Bool) → cond t ((b ∷ []) ∷ []) ((b ∷ []) ∷ []) ≡ (b ∷ cond t [] []) ∷ cut_rest (cond t [] [])
    go true = refl
    go false = refl
cut-first b (c ∷ s) = go (eqb b 10) (cut-first c s)
  where
    go : (t : Bool) → cut_rest (c ∷ s) ≡ first_of (c ∷ s) ∷ cut_rest (after_of (c ∷ s))
        → cond t ((b ∷ []) ∷ cut_rest (c ∷ s)) (before b (cut_rest (c ∷ s))) ≡ (b ∷ cond t [] (first_of (c ∷ s))) ∷ cut_rest
        (cond t (c ∷ s) (after_of (c ∷ s)))
    go true ih = refl
    go false ih = ap (before b) ih

-- the same by the width of the first line
width-parts : (s : List ℕ) → (first_of s ≡ take (line_width s) s) × (after_of s ≡ drop (line_width s) s)
unfolding line_width
width-parts [] = (refl, refl)
width-parts (b ∷ s) = go (eqb b 10) (width-parts s)
  where
    go : (t : Bool) → (first_of s ≡ take (line_width s) s) × (after_of s ≡ drop (line_width s) s)
        → (b ∷ cond t [] (first_of s) ≡ take (cond t 1 (suc (line_width s))) (b ∷ s))
        × (cond t s (after_of s) ≡ drop (cond t 1 (suc (line_width s))) (b ∷ s))
    go true ih = (refl, refl)
    go false ih = (ap (λ (r : List ℕ). b ∷ r) ih.0, ih.1)

cut-width : (s : List ℕ) → 0 < length s → cut_rest s ≡ take (line_width s) s ∷ cut_rest (drop (line_width s) s)
cut-width [] h = let z : ⊥ = omega arith in absurd z
cut-width (b ∷ s) h = let p = width-parts (b ∷ s) in cut-first b s ∙ ap₂ (λ (l r : List ℕ). l ∷ cut_rest r) p.0 p.1

-- the line that starts at a place
abbrev pub line_at : List ℕ → ℕ → List ℕ
line_at s a = take (line_width (drop a s)) (drop a s)

pub cut_at : (s : List ℕ) (a : ℕ) → a < length s → cut_rest (drop a s) ≡ line_at s a ∷ cut_rest (drop (a + line_width (drop a s)) s)
cut_at s a h = cut-width (drop a s) (simp length-drop (omega arith)) ∙ rw drop-drop

pub cut-end : (s : List ℕ) (a : ℕ) → length s ≤ a → cut_rest (drop a s) ≡ []
unfolding cut_rest
cut-end s a h = rw (drop_of_length-le s h)

pub cut-start : (s : List ℕ) → 0 < length s → cut_lines s ≡ cut_rest (drop 0 s)
unfolding cut_lines
cut-start [] h = let z : ⊥ = omega arith in absurd z
cut-start (b ∷ s) h = refl

pub cut-none : (s : List ℕ) → length s ≡ 0 → cut_lines s ≡ [] ∷ []
unfolding cut_lines
cut-none [] h = refl
cut-none (b ∷ s) h = let z : ⊥ = omega arith in absurd z
