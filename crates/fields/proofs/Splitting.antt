-- The fields of a body and their places. One induction over the bytes gives, for each field, where it ends, which bytes it has and
-- that it lies in the body; fields joined by commas are the fields again.
use Prim.Native.Nat.{ℕ, zero, suc, ◌+◌, ◌≤◌, ◌<◌}
use mathlib.Core.Path.{◌≡◌, refl, ◌∙◌, ap}
use mathlib.Core.List.{List, [], ◌∷◌}
use mathlib.Core.Bool.{Bool, true, false, cond}
use native.Mathlib.Omega.{arith}
use lib.ListN.{length, get_or, take, drop}
use lib.Dec.{eqb}
use Rattle.fields.specs.Fields.{onto, fields_of, start_of}
use Rattle.line.specs.Ends.{ends_from}

-- There is always a first field.
abbrev pub First : List (List ℕ) → Type 0
First fs = (f : List ℕ) × (gs : List (List ℕ)) × (fs ≡ f ∷ gs)

pub first_field : (s : List ℕ) → First (fields_of s)
unfolding fields_of onto
first_field [] = ([], [], refl)
first_field (b ∷ s) = go (eqb b 44) (first_field s)
  where
    go : (t : Bool) → First (fields_of s) → First (cond t ([] ∷ fields_of s) (onto b (fields_of s)))
    go true r = ([], fields_of s, refl)
    go false r = (b ∷ r.0, r.1, ap (onto b) r.2)

-- as many ends as fields
pub ends-count : (i : ℕ) (s : List ℕ) → length (ends_from i s) ≡ length (fields_of s)
unfolding ends_from fields_of onto
ends-count i [] = refl
ends-count i (b ∷ s) = go (eqb b 44) (ends-count (i + 1) s) (first_field s)
  where
    go : (t : Bool) → length (ends_from (i + 1) s) ≡ length (fields_of s) → First (fields_of s)
        → length (cond t (i ∷ ends_from (i + 1) s) (ends_from (i + 1) s)) ≡ length (cond t ([] ∷ fields_of s) (onto b (fields_of s)))
    go true e r = ap suc e
    go false e r = e ∙ rw r.2

pub fields-most : (s : List ℕ) → length (fields_of s) ≤ length s + 1
unfolding fields_of onto
fields-most [] = omega arith
fields-most (b ∷ s) = go (eqb b 44) (fields-most s) (first_field s)
  where
    go : (t : Bool) → length (fields_of s) ≤ length s + 1 → First (fields_of s)
        → length (cond t ([] ∷ fields_of s) (onto b (fields_of s))) ≤ length (b ∷ s) + 1
    go true e r = omega arith
    go false e r = rw r.2 (omega (arith, rw r.2 at e))

-- field k of s, by the ends from place i on
pub record FieldAt (i : ℕ) (es : List ℕ) (fs : List (List ℕ)) (s : List ℕ) (k : ℕ) : Type 0 where
  pub end : get_or es k 0 ≡ i + start_of k fs + length (get_or fs k [])
  pub bytes : take (length (get_or fs k [])) (drop (start_of k fs) s) ≡ get_or fs k []
  pub inside : start_of k fs + length (get_or fs k []) ≤ length s

one_more : (n : ℕ) → 1 + n ≡ suc n
one_more n = omega arith

one-first : (n m : ℕ) → suc n + 1 + m ≡ suc (n + 1 + m)
one-first n m = omega arith

past-comma : (i : ℕ) (es : List ℕ) (fs : List (List ℕ)) (b : ℕ) (s : List ℕ) (k : ℕ) → ((j : ℕ) → j < length fs → FieldAt (i + 1) es fs s j)
    → k < suc (length fs) → FieldAt i (i ∷ es) ([] ∷ fs) (b ∷ s) k
unfolding start_of
past-comma i es fs b s zero ih h = record { end = omega arith; bytes = refl; inside = omega arith }
past-comma i es fs b s (suc k) ih h = let r =
    ih k (omega arith) in record {
      end = omega (arith, r.end);
      bytes = rw (one_more (start_of k fs)) r.bytes;
      inside = omega (arith, r.inside);
    }

past-other : (i : ℕ) (es : List ℕ) (f : List ℕ) (fs : List (List ℕ)) (b : ℕ) (s : List ℕ) (k : ℕ) → FieldAt (i + 1) es (f ∷ fs) s k
    → FieldAt i es ((b ∷ f) ∷ fs) (b ∷ s) k
unfolding start_of
past-other i es f fs b s zero r =
    record { end = omega (arith, r.end); bytes = ap (λ (t : List ℕ). b ∷ t) r.bytes; inside = omega (arith, r.inside) }
past-other i es f fs b s (suc k) r =
    record { end = omega (arith, r.end); bytes = rw (one-first (length f) (start_of k fs)) r.bytes; inside = omega (arith, r.inside) }

pub field-at : (i : ℕ) (s : List ℕ) (k : ℕ) → k < length (fields_of s) → FieldAt i (ends_from i s) (fields_of s) s k
unfolding ends_from fields_of onto start_of
field-at i [] zero h = record { end = omega arith; bytes = refl; inside = omega arith }
field-at i [] (suc k) h = let z : ⊥ = omega arith in absurd z
field-at i (b ∷ s) k h = go (eqb b 44) (field-at (i + 1) s) (first_field s) h
  where
    go : (t : Bool) → ((j : ℕ) → j < length (fields_of s) → FieldAt (i + 1) (ends_from (i + 1) s) (fields_of s) s j) → First (fields_of s)
        → k < length (cond t ([] ∷ fields_of s) (onto b (fields_of s)))
        → FieldAt i (cond t (i ∷ ends_from (i + 1) s) (ends_from (i + 1) s)) (cond t ([] ∷ fields_of s) (onto b (fields_of s))) (b ∷ s) k
    go true ih r h = past-comma i (ends_from (i + 1) s) (fields_of s) b s k ih h
    go false ih r h =
        rw r.2 (past-other i (ends_from (i + 1) s) r.0 r.1 b s k (rw r.2 at (ih k (rw r.2 (rw r.2 at h)))))
