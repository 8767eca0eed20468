-- Kinds by number: a number that is none of 1 to 15 is 0 or past the table, and no kind; and what a record comes to, by how many numbers
-- its kind has.
use Prim.Native.Nat.{◌<◌, ◌≤◌, suc, zero, ℕ}
use mathlib.Core.Path.{◌∙◌, ◌≡◌, ap, refl, subst, sym}
use mathlib.Core.Bool.{Bool, false, true}
use mathlib.Core.List.{◌∷◌, List}
use native.Mathlib.Omega.{arith}
use borrow.Author.Tests.{le-ltb, lt-ltb, ltb-false, ltb-true}
use lib.Dec.{ltb}
use lib.IntN.{ℤ}
use lib.ListN.{length, get_or-eq_default}
use Rattle.address.specs.declared.Address.{Address}
use Rattle.address.specs.declared.Address.TheVariants.{Unknown}
use Rattle.address.specs.declared.Talker.{Talker}
use Rattle.sentence.specs.Sentence.{Refused}
use Rattle.digits.specs.Pick.{pick}
use Rattle.numbers.specs.Layout.{whole}
use Rattle.sentence.specs.Numbers.{count_of, counts}
use Rattle.sentence.specs.Back.{address_at, addressed, known_of, record_at, standard_kinds}

-- A number that is none of 1 to n, as a `match` leaves it; it is 0 or past n.
abbrev Not : ℕ → ℕ → Type 0
Not kind zero = Unit {0}
Not kind (suc n) = Not kind n × (kind ≡ suc n → ⊥)

low : (kind n : ℕ) → Not kind n → kind < suc n → kind ≡ 0
low kind zero h l = omega (arith, l)
low kind (suc n) h l = let m = h.1 in low kind n h.0 (omega (arith, l, m))

-- Whatever holds of 0 and of what is past the table holds of a number that is none of 1 to 15.
module _ (P : ℕ → Type 0) (first : P 0) (past : (k : ℕ) → 16 ≤ k → P k) where
  none_of : (kind : ℕ) → Not kind 15 → P kind
  none_of kind h = go (ltb kind 16) refl
    where
      go : (b : Bool) → ltb kind 16 ≡ b → P kind
      go true e = subst P (sym (low kind 15 h (ltb-true kind 16 e))) first
      go false e = past kind (ltb-false kind 16 e)

pub count_none : (kind : ℕ) → Not kind 15 → 0 ≡ count_of kind
count_none = none_of (λ k. 0 ≡ count_of k) refl (λ k h. sym (get_or-eq_default counts 0 {n = k} h))

pub known-none : (kind : ℕ) → Not kind 15 → (t : Talker) → Unknown ≡ known_of kind t
unfolding known_of
known-none kind h t =
    none_of (λ k. Unknown ≡ known_of k t) refl (λ k i. sym (get_or-eq_default (Unknown ∷ standard_kinds t) Unknown {n = k} i)) kind h

module _ (kind : ℕ) (n : List ℤ) (k : ℕ) (e : k ≡ count_of kind) where
  pub too_few : length n < k → Refused 5 0 ≡ record_at kind n
  unfolding record_at
  too_few h =
      sym (ap (λ b. pick b (Refused 5 0) (addressed (address_at kind (whole.at n 0)) n))
      (ap (ltb (length n)) (sym e) ∙ lt-ltb (length n) k h))

  pub enough : (a : Address) → a ≡ address_at kind (whole.at n 0) → k ≤ length n → addressed a n ≡ record_at kind n
  unfolding record_at
  enough a ea h =
      ap (λ x. addressed x n) ea
      ∙ sym (ap (λ b. pick b (Refused 5 0) (addressed (address_at kind (whole.at n 0)) n))
      (ap (ltb (length n)) (sym e) ∙ le-ltb (length n) k h))
