-- The row of a GSV, count by count: the places of the fields after an entry that is not used differ, and none of them is wrong.
use Prim.Native.Nat.{◌+◌, ◌≤◌, suc, zero, ℕ}
use mathlib.Core.Bool.{Bool, cond, false, true}
use mathlib.Core.List.{List}
use mathlib.Core.Path.{◌∙◌, ◌≡◌, ap, refl, sym}
use native.Mathlib.Omega.{arith}
use lib.Dec.{eqb, ltb}
use lib.IntN.{ℤ}
use borrow.Author.Tests.{eqb-true, lt-ltb}
use Rattle.digits.specs.Pick.{pick}
use Rattle.address.specs.declared.Talker.{Talker}
use Rattle.form.specs.Kind.{answer_by}
use Rattle.form.specs.Wrong.{near_of}
use Rattle.numbers.specs.Told.{Answer, gives, refuses}
use Rattle.kind_gsv.specs.Row.{entries_of, entry_form, gsv_from, gsv_numbers, gsv_row, gsv_with, line_number, Readings, satellite_total}

-- What the fields read as, each entry in its place among four.
abbrev pub four_places : ℕ → (ℕ → List ℕ) → Readings
four_places count field = (
  line_number.got field,
  (
    line_number.got (λ k. field (1 + k)),
    (
      satellite_total.got (λ k. field (2 + k)),
      (
        entry_form (ltb 0 count) 4 5 6 7 field,
        (
          entry_form (ltb 1 count) 8 9 10 11 field,
          (
            entry_form (ltb 2 count) 12 13 14 15 field,
            entry_form (ltb 3 count) 16 17 18 19 field,
          ),
        ),
      ),
    ),
  ),
)

module _ (out : List ℤ) (t : Talker) where
  abbrev pub gsv_by : ℕ → (ℕ → List ℕ) → Answer
  gsv_by count field = gsv_with (refuses out) (λ r. gives out 4 (gsv_numbers t r)) count field

  with-four : (count : ℕ) (field : ℕ → List ℕ)
      → pick (ltb 4 count) (refuses out 4 0) (gsv_from out t count (four_places count field)) ≡ gsv_by count field
  unfolding gsv_with gsv_from gsv_row entry_form near_of answer_by
  with-four zero field = refl
  with-four (suc zero) field = refl
  with-four (suc (suc zero)) field = refl
  with-four (suc (suc (suc zero))) field = refl
  with-four (suc (suc (suc (suc zero)))) field = refl
  with-four (suc (suc (suc (suc (suc count))))) field = rw (lt-ltb 4 (suc (suc (suc (suc (suc count))))) (omega arith))

  pub with-few : (count : ℕ) (field : ℕ → List ℕ) → ltb 4 count ≡ false → gsv_from out t count (four_places count field) ≡ gsv_by count field
  with-few count field h =
      sym (ap (λ (b : Bool). pick b (refuses out 4 0) (gsv_from out t count (four_places count field))) h) ∙ with-four count field

  pub with-many : (count : ℕ) (field : ℕ → List ℕ) → ltb 4 count ≡ true → refuses out 4 0 ≡ gsv_by count field
  with-many count field h =
      sym (ap (λ (b : Bool). pick b (refuses out 4 0) (gsv_from out t count (four_places count field))) h) ∙ with-four count field

-- A line of at most four entries has as many fields as their row.
abbrev of : Bool → Bool → Bool → Bool → Bool → ℕ
of a b c d e = cond a 0 (cond b 1 (cond c 2 (cond d 3 (cond e 4 5))))

pub entries-are : (n : ℕ) → entries_of n ≤ 4 → n ≡ (gsv_row (entries_of n)).width
unfolding entries_of gsv_row
entries-are n = go (eqb n 3) (eqb n 7) (eqb n 11) (eqb n 15) (eqb n 19) refl refl refl refl refl
  where
    go : (a b c d e : Bool) → eqb n 3 ≡ a → eqb n 7 ≡ b → eqb n 11 ≡ c → eqb n 15 ≡ d → eqb n 19 ≡ e → of a b c d e ≤ 4
        → n ≡ (gsv_row (of a b c d e)).width
    go true b c d e p q r s u h = eqb-true n 3 p
    go false true c d e p q r s u h = eqb-true n 7 q
    go false false true d e p q r s u h = eqb-true n 11 r
    go false false false true e p q r s u h = eqb-true n 15 s
    go false false false false true p q r s u h = eqb-true n 19 u
    go false false false false false p q r s u h = let z : ⊥ = omega arith in absurd z
