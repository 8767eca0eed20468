-- A list of values one after another is lawful where one of them is, by induction; an array is the list of its places.
use Prim.Native.Nat.{ℕ, zero, suc, ◌+◌}
use mathlib.Core.Path.{◌≡◌, refl, sym, ap, ◌∙◌}
use mathlib.Core.List.{List, [], ◌∷◌, ◌++◌, append_assoc}
use mathlib.Core.Bool.{true}
use native.Mathlib.Omega.{arith}
use native.Mathlib.Nat.{zero-add}
use native.Mathlib.Numerals.{add-one}
use borrow.Author.Tests.{eqb-true}
use lib.Dec.{eqb}
use lib.IntN.{ℤ, pos}
use lib.ListN.{length, get_or, drop, drop_of_length-le}
use lib.Seq.{drop-cons}
use Rattle.numbers.specs.Layout.{Layout, list_numbers, list_at, list_held, sizes, from, several}
use Rattle.numbers.proofs.Layouts.{Holds, Alike, LawfulLayout, and-true, regrouped, holds-first, holds-second, alike-second}

module _ {X : Type 0} {a : Layout X} (f : LawfulLayout a) where
  pub list_count : (vs : List X) (rest : List ℤ) → length (list_numbers a vs rest) ≡ sizes a.size (length vs) + length rest
  list_count [] rest = sym (zero-add (length rest))
  list_count (v ∷ vs) rest = omega (arith, f.count v (list_numbers a vs rest), list_count vs rest)

  list-skip : (vs : List X) (rest : List ℤ) (k : ℕ)
      → get_or (list_numbers a vs rest) (sizes a.size (length vs) + k) (pos 0) ≡ get_or rest k (pos 0)
  list-skip [] rest k = ap (λ (j : ℕ). get_or rest j (pos 0)) (zero-add k)
  list-skip (v ∷ vs) rest k =
      ap (λ (j : ℕ). get_or (a.numbers v (list_numbers a vs rest)) j (pos 0)) (regrouped a.size (sizes a.size (length vs)) k)
      ∙ f.skip v (list_numbers a vs rest) (sizes a.size (length vs) + k) ∙ list-skip vs rest k

  pub list_back : (vs : List X) → list_held a vs ≡ true → (rest l : List ℤ) (p : ℕ)
      → Holds l p (sizes a.size (length vs)) (list_numbers a vs rest) → list_at a l p (length vs) ≡ vs
  list_back [] e rest l p h = refl
  list_back (v ∷ vs) e rest l p h =
      let w = and-true (a.held v) (list_held a vs) e in
      let n = sizes a.size (length vs) in
      let after = list_numbers a vs rest in
      let x = f.back v w.0 after l p (holds-first l p a.size n (a.numbers v after) h) in
      let y = list_back vs w.1 rest l (p + a.size) (holds-second l p a.size n (a.numbers v after) after h (f.skip v after)) in
      rw (x, y)

  pub list-onto : (vs : List X) (rest : List ℤ) → list_numbers a vs rest ≡ list_numbers a vs [] ++ rest
  list-onto [] rest = refl
  list-onto (v ∷ vs) rest =
      f.onto v (list_numbers a vs rest) ∙ ap (λ (l : List ℤ). a.numbers v [] ++ l) (list-onto vs rest)
      ∙ sym (append_assoc (a.numbers v []) (list_numbers a vs []) rest)
      ∙ ap (λ (l : List ℤ). l ++ rest) (sym (f.onto v (list_numbers a vs [])))

  list-own : (k : ℕ) (l m : List ℤ) (p : ℕ) → Alike l m p (sizes a.size k) → list_at a m p k ≡ list_at a l p k
  list-own zero l m p h = refl
  list-own (suc k) l m p h =
      let x = f.own l m p (λ j i. h j (omega arith)) in
      let y = list-own k l m (p + a.size) (alike-second l p a.size (sizes a.size k) m h) in
      rw (x, y)

-- The places of a list.
module _ {X : Type 0} (none : X) (vs : List X) where
  from-length : (i k : ℕ) → length (from none vs i k) ≡ k
  from-length i zero = refl
  from-length i (suc k) = ap suc (from-length (i + 1) k)

  from-drop : (i k : ℕ) → length vs ≡ i + k → from none vs i k ≡ drop i vs
  from-drop i zero h = sym (drop_of_length-le vs {i = i} (omega (arith, h)))
  from-drop i (suc k) h =
      ap (λ (l : List X). get_or vs i none ∷ l) (from-drop (i + 1) k (omega (arith, h)) ∙ ap (λ (j : ℕ). drop j vs) (add-one i))
      ∙ sym (drop-cons vs i none (omega (arith, h)))

  pub from_all : (k : ℕ) → length vs ≡ k → from none vs 0 k ≡ vs
  from_all k h = from-drop 0 k (h ∙ sym (zero-add k))

pub lawful-several : {X : Type 0} (k : ℕ) (none : X) {a : Layout X} → LawfulLayout a → LawfulLayout (several k none a)
lawful-several {X} k none {a = a} f =
    record {
      back = λ vs e rest l p h.
          let w = and-true (eqb (length vs) k) (list_held a vs) e in
          let n = eqb-true (length vs) k w.0 in
          ap (list_at a l p) (sym n) ∙ list_back f vs w.1 rest l p (kept vs n rest l p h);
      count = λ vs rest.
          list_count f (from none vs 0 k) rest ∙ ap (λ (n : ℕ). sizes a.size n + length rest) (from-length none vs 0 k);
      skip = λ vs rest j.
          ap (λ (n : ℕ). get_or (list_numbers a (from none vs 0 k) rest) (sizes a.size n + j) (pos 0)) (sym (from-length none vs 0 k))
          ∙ list-skip f (from none vs 0 k) rest j;
      own = λ l m p h. list-own f k l m p h;
      onto = λ vs rest. list-onto f (from none vs 0 k) rest;
    }
  where
    kept : (vs : List X) → length vs ≡ k → (rest l : List ℤ) (p : ℕ)
        → Holds l p (sizes a.size k) (list_numbers a (from none vs 0 k) rest)
        → Holds l p (sizes a.size (length vs)) (list_numbers a vs rest)
    kept vs n rest l p h = rw (n, ← from_all none vs k n) h
