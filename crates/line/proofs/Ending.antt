-- The ends of the fields, stored one after another: each byte of the body is one step of the stores. A place may be written over
-- until its comma comes, since what is stored last at a place stands there.
use Prim.Native.Nat.{ℕ, suc, ◌+◌, ◌≤◌, ◌<◌}
use mathlib.Core.Path.{◌≡◌, refl, sym, ◌∙◌, ap}
use mathlib.Core.List.{List, [], ◌∷◌}
use mathlib.Core.Bool.{Bool, true, false, cond}
use native.Mathlib.Omega.{arith}
use native.Mathlib.Numerals.{add-one}
use lib.ListN.{length, get_or, drop, set, drop_of_length-le, length-set}
use lib.Dec.{eqb}
use lib.Seq.{drop-cons, length-sets, set-set, sets}
use mir.Val.{bool_byte}
use borrow.Author.Tests.{ne_eqb}
use Rattle.line.specs.Ends.{ends_from}

-- There is always a first end.
abbrev First : List ℕ → Type 0
First es = (e : ℕ) × (ds : List ℕ) × (es ≡ e ∷ ds)

first-end : (i : ℕ) (s : List ℕ) → First (ends_from i s)
unfolding ends_from
first-end i [] = (i, [], refl)
first-end i (b ∷ s) = go (eqb b 44) (first-end (i + 1) s)
  where
    go : (t : Bool) → First (ends_from (i + 1) s) → First (cond t (i ∷ ends_from (i + 1) s) (ends_from (i + 1) s))
    go true r = (i, ends_from (i + 1) s, refl)
    go false r = r

-- one byte of the body, at place i, with n ends stored in p
module _ (p : List ℕ) (n : ℕ) (s : List ℕ) (i : ℕ) where
  module _ (h : i < length s) where
    abbrev comma : Bool
    comma = eqb (get_or s i 0) 44

    abbrev left : List ℕ
    left = ends_from (i + 1) (drop (i + 1) s)

    ends_next : ends_from i (drop i s) ≡ cond comma (i ∷ left) left
    unfolding ends_from
    ends_next = rw (drop-cons s i 0 h, add-one i)

    pub count_next : bool_byte comma + length left ≡ length (ends_from i (drop i s))
    count_next = go comma ∙ ap length (sym ends_next)
      where
        go : (t : Bool) → bool_byte t + length left ≡ length (cond t (i ∷ left) left)
        go true = omega arith
        go false = omega arith

    pub store-next : sets (set p n i) (n + bool_byte comma) left ≡ sets p n (ends_from i (drop i s))
    store-next = go comma (first-end (i + 1) (drop (i + 1) s)) ∙ ap (sets p n) (sym ends_next)
      where
        go : (t : Bool) → First left → sets (set p n i) (n + bool_byte t) left ≡ sets p n (cond t (i ∷ left) left)
        go true r = let e : n + 1 ≡ suc n = omega arith in rw e
        go false r =
            let e : n + 0 ≡ n = omega arith in
            rw (e, r.2) (ap (λ (q : List ℕ). sets q (suc n) r.1) (set-set p n i r.0))

    -- a byte that is no comma leaves what is left
    module _ (o : get_or s i 0 ≡ 44 → ⊥) where
      ends-skip : left ≡ ends_from i (drop i s)
      ends-skip = sym (ends_next ∙ rw (ne_eqb (get_or s i 0) 44 o))

      pub count-skip : length left ≡ length (ends_from i (drop i s))
      count-skip = ap length ends-skip

      pub store-skip : sets p n left ≡ sets p n (ends_from i (drop i s))
      store-skip = ap (sets p n) ends-skip

  module _ (h : length s ≤ i) where
    pub count-end : length (ends_from i (drop i s)) ≡ 1
    unfolding ends_from
    count-end = rw (drop_of_length-le s h)

    pub store-end : sets p n (ends_from i (drop i s)) ≡ set p n i
    unfolding ends_from
    store-end = rw (drop_of_length-le s h)

-- A mark of a comma adds at most one.
pub mark-most : (t : Bool) → bool_byte t ≤ 1
mark-most true = omega arith
mark-most false = omega arith

-- Stores keep the length.
pub set_same : (p q p₀ : List ℕ) (n i : ℕ) → q ≡ set p n i → length p ≡ length p₀ → length q ≡ length p₀
set_same p q p₀ n i e h = ap length e ∙ (length-set p n i ∙ h)

pub sets_same : (p q es : List ℕ) → q ≡ sets p 0 es → length q ≡ length p
sets_same p q es e = ap length e ∙ length-sets p 0 es
