-- Fields joined by commas are the fields again, and a body is its fields joined: one step over the bytes of the first field.
use Prim.Native.Nat.{ℕ}
use mathlib.Core.Path.{◌≡◌, refl, sym, ◌∙◌, ap}
use mathlib.Core.List.{List, [], ◌∷◌, ◌++◌, append-nil}
use mathlib.Core.Bool.{Bool, true, false, cond, not}
use lib.Dec.{eqb}
use borrow.Author.Tests.{not-true, eqb-true}
use Rattle.digits.proofs.Bools.{and_left, and_right}
use Rattle.address.specs.Address.{comma_free}
use Rattle.fields.specs.Fields.{onto, fields_of, join_fields}
use Rattle.fields.proofs.Splitting.{First, first_field}

-- No field has a comma in it.
abbrev pub Free : List (List ℕ) → Type 0
Free [] = Unit {0}
Free (f ∷ fs) = (comma_free f ≡ true) × Free fs

-- the fields of a first field and what follows it
first_of : (f s : List ℕ) (g : List ℕ) (gs : List (List ℕ)) → comma_free f ≡ true → fields_of s ≡ g ∷ gs → fields_of (f ++ s) ≡ (f ++ g) ∷ gs
unfolding fields_of onto comma_free
first_of [] s g gs e i = i
first_of (b ∷ f) s g gs e i =
    rw (not-true (eqb b 44) (and_left _ _ e)) (ap (onto b) (first_of f s g gs (and_right (not (eqb b 44)) _ e) i))

-- Fields that were joined are found again.
pub fields_join : (f : List ℕ) (fs : List (List ℕ)) → Free (f ∷ fs) → fields_of (join_fields f fs) ≡ f ∷ fs
unfolding fields_of join_fields
fields_join f [] h =
    ap fields_of (sym (append-nil f)) ∙ first_of f [] [] [] h.0 refl ∙ ap (λ (x : List ℕ). x ∷ []) (append-nil f)
fields_join f (g ∷ fs) h =
    first_of f (44 ∷ join_fields g fs) [] (g ∷ fs) h.0 (ap (λ (x : List (List ℕ)). [] ∷ x) (fields_join g fs h.1))
    ∙ ap (λ (x : List ℕ). x ∷ (g ∷ fs)) (append-nil f)

-- some fields, joined
abbrev pub join_all : List (List ℕ) → List ℕ
join_all [] = []
join_all (f ∷ fs) = join_fields f fs

join-grown : (b : ℕ) (f : List ℕ) (gs : List (List ℕ)) → join_fields (b ∷ f) gs ≡ b ∷ join_fields f gs
unfolding join_fields
join-grown b f [] = refl
join-grown b f (g ∷ gs) = refl

join-onto : (b : ℕ) (fs : List (List ℕ)) → First fs → join_all (onto b fs) ≡ b ∷ join_all fs
unfolding onto
join-onto b fs r = rw r.2 (join-grown b r.0 r.1)

join-empty : (fs : List (List ℕ)) → First fs → join_all ([] ∷ fs) ≡ 44 ∷ join_all fs
unfolding join_fields
join-empty fs r = rw r.2

-- The fields of a body, joined, are the body.
pub join-fields : (s : List ℕ) → join_all (fields_of s) ≡ s
unfolding fields_of join_fields
join-fields [] = refl
join-fields (b ∷ s) = go (eqb b 44) refl (join-fields s) (first_field s)
  where
    go : (t : Bool) → eqb b 44 ≡ t → join_all (fields_of s) ≡ s → First (fields_of s)
        → join_all (cond t ([] ∷ fields_of s) (onto b (fields_of s))) ≡ b ∷ s
    go true i ih r = join-empty (fields_of s) r ∙ rw (ih, eqb-true b 44 i)
    go false i ih r = join-onto b (fields_of s) r ∙ ap (λ (x : List ℕ). b ∷ x) ih
