-- A list of so many places is the list of what stands in them.
use Prim.Native.Nat.{suc, zero, ℕ}
use mathlib.Core.List.{[], ◌∷◌, List}
use mathlib.Core.Path.{◌∙◌, ◌≡◌, ap, refl, sym}
use lib.ListN.{get_or, length}

-- The first n things that a function gives; a list is the things in its places.
abbrev pub firsts : {A : Type 0} → ℕ → (ℕ → A) → List A
firsts zero f = []
firsts (suc n) f = f 0 ∷ firsts n (λ k. f (suc k))

pub all_firsts : {A : Type 0} (d : A) (l : List A) → firsts (length l) (λ k. get_or l k d) ≡ l
all_firsts d [] = refl
all_firsts d (x ∷ l) = ap (λ m. x ∷ m) (all_firsts d l)

pub all-places : {A : Type 0} (d : A) (n : ℕ) (l : List A) → length l ≡ n → firsts n (λ k. get_or l k d) ≡ l
all-places d n l h = ap (λ (m : ℕ). firsts m (λ k. get_or l k d)) (sym h) ∙ all_firsts d l

pub all-four : {A : Type 0} (d : A) (l : List A) → length l ≡ 4 → get_or l 0 d ∷ get_or l 1 d ∷ get_or l 2 d ∷ get_or l 3 d ∷ [] ≡ l
all-four d = all-places d 4

pub all-twelve : {A : Type 0} (d : A) (l : List A) → length l ≡ 12
    → get_or l 0 d ∷ get_or l 1 d ∷ get_or l 2 d ∷ get_or l 3 d ∷ get_or l 4 d ∷ get_or l 5 d ∷ get_or l 6 d ∷ get_or l 7 d ∷ get_or l 8 d ∷ get_or l 9 d
    ∷ get_or l 10 d ∷ get_or l 11 d ∷ [] ≡ l
all-twelve d = all-places d 12
