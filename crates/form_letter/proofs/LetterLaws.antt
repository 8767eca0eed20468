-- A letter of a set from both sides, by cases of the length of the field: none, one, more.
use Prim.Native.Nat.{◌<◌, suc, zero, ℕ}
use mathlib.Core.Bool.{Bool, cond, false, true}
use mathlib.Core.List.{[], ◌∷◌, List}
use Rattle.std.specs.Prelude.{None, Some}
use Rattle.digits.proofs.Options.{some-injective}
use mathlib.Core.Logic.{◌≢◌}
use mathlib.Core.Path.{◌≡◌, refl, sym}
use native.Mathlib.Omega.{arith}
use lib.Dec.{eqb}
use lib.ListN.{get_or, length}
use borrow.Author.Tests.{eq-eqb, ne_eqb}
use Rattle.std.proofs.Math.Bool.{or-true}
use Rattle.std.specs.Bool.{MatchBool}
use Rattle.std.specs.List.{AllWithin, HoldsAt, list_any}
use Rattle.digits.proofs.Options.{nothing, through}
use Rattle.form_letter.specs.Letters.{is_in, letter_of}

-- One byte reads where it is in the set.
pub letter-one : (set f : List ℕ) → length f ≡ 1 → letter_of set f ≡ cond (is_in (get_or f 0 0) set) (Some (get_or f 0 0)) None
unfolding letter_of
letter-one set [] e = let z : ⊥ = omega arith in absurd z
letter-one set (b ∷ []) e = refl
letter-one set (b ∷ c ∷ f) e = let z : ⊥ = omega arith in absurd z

-- No other length reads.
pub letter-other : (set f : List ℕ) → (length f ≡ 1 → ⊥) → letter_of set f ≡ None
unfolding letter_of
letter-other set [] n = refl
letter-other set (b ∷ []) n = absurd (n refl)
letter-other set (b ∷ c ∷ f) n = refl

-- A byte is in a set where it stands in it, and not where no byte of the set is it.
in-at : (v : ℕ) (s : List ℕ) (k : ℕ) → k < length s → get_or s k 0 ≡ v → is_in v s ≡ true
unfolding is_in
in-at v [] k h e = let z : ⊥ = omega arith in absurd z
in-at v (c ∷ s) zero h e = rw (eq-eqb c v e)
in-at v (c ∷ s) (suc k) h e = rw (in-at v s k (omega arith) e) (or-true (eqb c v))

in-none : (v : ℕ) (s : List ℕ) → ((k : ℕ) → k < length s → get_or s k 0 ≢ v) → is_in v s ≡ false
unfolding is_in
in-none v [] h = refl
in-none v (c ∷ s) h = rw (ne_eqb c v (h 0 (omega arith)), in-none v s (λ k l. h (suc k) (omega arith)))

-- What std says of a search in a set by a test, and by a byte.
pub any-in : (v : ℕ) (s : List ℕ) (r : Bool)
    → MatchBool r ((k : ℕ) × (k < length s) × HoldsAt (λ x. x ≡ v) s k) (AllWithin (λ x. x ≢ v) s 0 (length s)) → r ≡ is_in v s
any-in v s true h = sym (in-at v s h.0 h.1 (h.2 0))
any-in v s false h = sym (in-none v s (λ k l. h k 0 (omega arith) l))

pub list_any-in : (v : ℕ) (s : List ℕ) → list_any (λ y. eqb y v) s ≡ is_in v s
unfolding is_in
list_any-in v [] = refl
list_any-in v (c ∷ s) = rw (list_any-in v s)

-- What reads is one letter of the set.
pub letter-is : (set f : List ℕ) (v : ℕ) → letter_of set f ≡ Some v → (f ≡ v ∷ []) × (is_in v set ≡ true)
unfolding letter_of
letter-is set [] v e = nothing v e
letter-is set (b ∷ []) v e =
    let t = through (is_in b set) (Some b) v e in
    let p = some-injective b v t.1 in
    (rw p, rw p at t.0)
letter-is set (b ∷ c ∷ f) v e = nothing v e

-- And each letter of the set reads.
pub letter-reads : (set : List ℕ) (v : ℕ) → is_in v set ≡ true → letter_of set (v ∷ []) ≡ Some v
unfolding letter_of
letter-reads set v e = rw e
