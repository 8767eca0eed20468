-- The way there and back, for every row that is lawful: what is written of a record in range reads as that record, and what was read can be
-- written, and is no longer.
use Prim.Native.Nat.{◌+◌, ◌≤◌, suc, ℕ}
use mathlib.Core.Bool.{Bool, false, true}
use mathlib.Core.List.{[], ◌∷◌, List}
use mathlib.Core.Path.{◌∙◌, ◌≡◌, ap, refl, subst, sym}
use native.Mathlib.Nat.{add-zero, zero-add}
use native.Mathlib.Omega.{arith}
use lib.Dec.{eqb}
use lib.ListN.{get_or, length}
use borrow.Author.Tests.{eq-eqb, eqb-true}
use Rattle.digits.specs.Pick.{pick}
use Rattle.line.specs.Line.{as_line}
use Rattle.address.specs.Address.{known_of}
use Rattle.fields.specs.Fields.{join_fields}
use Rattle.form.specs.Kind.{answer_by, fault_by, fields_for, read_by}
use Rattle.form.specs.Row.{Row}
use Rattle.form.proofs.Clean.{Clean, CleanAll}
use Rattle.form.proofs.CleanTexts.{joined_length, total}
use Rattle.form.proofs.Laws.{bytes, Lawful, Short}
use Rattle.sentence.specs.Sentence as S
use Rattle.sentence.specs.Sentence.{Sentence}
use Rattle.sentence.specs.Lines.{addressed, read_line}
use Rattle.sentence_laws.proofs.Back.{read_back}

module _ {G R : Type 0} (row : Row G R) (l : Lawful row) (make : R → Sentence) where
  as_many : (r : R) → length (fields_for row r) ≡ row.width
  unfolding fields_for
  as_many r = l.count r [] ∙ add-zero row.width

  -- The texts of a record in range may stand in a body, and are so long at most.
  pub clean-fields : (r : R) → fault_by row r ≡ 0 → CleanAll (fields_for row r)
  unfolding fault_by fields_for
  clean-fields r e = l.clean r [] e tt

  pub body-long : (a : List ℕ) (r : R) → fault_by row r ≡ 0 → length (join_fields a (fields_for row r)) ≤ length a + row.most
  unfolding fault_by fields_for
  body-long a r e = omega (arith, joined_length a (fields_for row r), l.long r [] e)

  -- The fields of a record in range read as that record.
  pub fields_back : (a : List ℕ) (r : R) → fault_by row r ≡ 0
      → read_by S.Refused row make (length (fields_for row r)) (λ k. get_or (a ∷ fields_for row r) k []) ≡ make r
  unfolding fault_by fields_for read_by answer_by
  fields_back a r e =
      let own : ℕ → List ℕ = λ k. get_or (a ∷ row.text r []) k [] in
      let x = l.back r e own 0 [] (λ k h. ap own (zero-add (suc k))) in
      rw (eq-eqb _ _ (as_many r), eq-eqb _ _ x.0, x.1)

  -- So does its line, where the address leads to the row.
  pub line-back : (a : List ℕ) → length a ≡ 5 → Clean a → 1 ≤ row.width
      → ((field : ℕ → List ℕ) → addressed (known_of a) row.width field ≡ read_by S.Refused row make row.width field)
      → (r : R) → fault_by row r ≡ 0 → length (join_fields a (fields_for row r)) ≤ 76
      → read_line (as_line (join_fields a (fields_for row r))) ≡ make r
  line-back a five ca some leads r e h = go (fields_for row r) refl
    where
      go : (fs : List (List ℕ)) → fields_for row r ≡ fs → read_line (as_line (join_fields a (fields_for row r))) ≡ make r
      go [] q = let z : ⊥ = omega (arith, as_many r, ap length q) in absurd z
      go (f ∷ fs) q =
          let clean = subst CleanAll q (clean-fields r e) in
          let fits = subst (λ (x : List (List ℕ)). length (join_fields a x) ≤ 76) q h in
          let many : length (f ∷ fs) ≡ row.width = ap length (sym q) ∙ as_many r in
          let own : ℕ → List ℕ = λ k. get_or (a ∷ f ∷ fs) k [] in
          let reads : List (List ℕ) → Sentence = λ x. read_by S.Refused row make (length x) (λ k. get_or (a ∷ x) k []) in
          ap (λ (x : List (List ℕ)). read_line (as_line (join_fields a x))) q
          ∙ read_back a f fs five ca clean fits
          ∙ ap (λ (n : ℕ). addressed (known_of a) n own) many
          ∙ leads own
          ∙ ap (λ (n : ℕ). read_by S.Refused row make n own) (sym many) ∙ ap reads (sym q) ∙ fields_back a r e

  -- Whatever holds of refusals and of records in range holds of what is read.
  module _ (n : ℕ) (field : ℕ → List ℕ) (P : Sentence → Type 0) (refused : (no at : ℕ) → P (S.Refused no at)) where
    abbrev w : ℕ
    w = row.wrong (row.got field 0) 0 0

    abbrev made : R
    made = row.value (row.got field 0)

    decided : (n ≡ row.width → w ≡ 0 → P (make made)) → P (read_by S.Refused row make n field)
    unfolding read_by answer_by
    decided good = go (eqb n row.width) (eqb w 0) refl refl
      where
        go : (a b : Bool) → eqb n row.width ≡ a → eqb w 0 ≡ b → P (pick a (pick b (make made) (S.Refused 5 w)) (S.Refused 4 0))
        go false b p q = refused 4 0
        go true false p q = refused 5 w
        go true true p q = good (eqb-true n row.width p) (eqb-true w 0 q)

    pub read-in-range : ((r : R) → n ≡ row.width → fault_by row r ≡ 0 → P (make r)) → P (read_by S.Refused row make n field)
    unfolding fault_by
    read-in-range written = decided (λ p q. written made p (l.sound field 0 q))

    -- The same, with lengths.
    pub read-shorter : Short row
        → ((r : R) → n ≡ row.width → fault_by row r ≡ 0 → total (fields_for row r) ≤ bytes field 0 row.width → P (make r))
        → P (read_by S.Refused row make n field)
    unfolding fault_by fields_for
    read-shorter s written = decided (λ p q. written made p (l.sound field 0 q) (omega (arith, s.short field 0 [] q)))
