-- What the place of a 5 says of a kind of sentence.
use Prim.Native.Nat.{◌<◌, ◌≤◌, suc, ℕ}
use mathlib.Core.List.{List}
use mathlib.Core.Path.{◌∙◌, ◌≡◌, ap, refl, subst, sym}
use native.Mathlib.Nat.{zero-add}
use native.Mathlib.Omega.{arith}
use borrow.Author.Tests.{eq-eqb, ne_eqb}
use Rattle.form.specs.Kind.{answer_by, read_by}
use Rattle.form.specs.Row.{Row}
use Rattle.form.proofs.Clean.{Clean}
use Rattle.form.proofs.PlaceLaws.{Agree, named_at, PrefixBut}

-- Fields that are the same before the one that is named, clean from it on, and read.
pub record Readable {A G R : Type 0} (refuse : ℕ → ℕ → A) (row : Row G R) (make : R → A) (field : ℕ → List ℕ) : Type 0 where
  pub other : ℕ → List ℕ
  pub before : (j : ℕ) → suc j < named_at row 0 field → other (suc j) ≡ field (suc j)
  pub clean : (j : ℕ) → j < row.width → named_at row 0 field ≤ suc j → Clean (other (suc j))
  pub read : read_by refuse row make row.width other ≡ make (row.value (row.got other 0))

-- The place of a 5 in a kind: it is one of its fields; whatever stands after it, the answer is the same; and what stands before it can be
-- completed, where that is usual.
pub record Placed {A G R : Type 0} (refuse : ℕ → ℕ → A) (row : Row G R) (make : R → A) (usual : (ℕ → List ℕ) → Type 0) : Type 0 where
  pub within : (field : ℕ → List ℕ) → named_at row 0 field ≤ row.width
  pub stays : (field other : ℕ → List ℕ) → 0 < named_at row 0 field → Agree field other suc (named_at row 0 field)
      → read_by refuse row make row.width other ≡ refuse 5 (named_at row 0 field)
  pub completed : (field : ℕ → List ℕ) → 0 < named_at row 0 field → usual field → Readable refuse row make field

module _ {A G R : Type 0} (refuse : ℕ → ℕ → A) (row : Row G R) (make : R → A) where
  -- With as many fields as the row has, the answer is by what they read as.
  whole-read : (o : ℕ → List ℕ) → read_by refuse row make row.width o ≡ answer_by refuse row make (row.got o 0)
  unfolding read_by
  whole-read o = rw (eq-eqb row.width row.width refl)

  answers-wrong : (o : ℕ → List ℕ) → 0 < named_at row 0 o → answer_by refuse row make (row.got o 0) ≡ refuse 5 (named_at row 0 o)
  unfolding answer_by
  answers-wrong o h = rw (ne_eqb (named_at row 0 o) 0 (λ e. omega arith))

  answers-good : (o : ℕ → List ℕ) → named_at row 0 o ≡ 0 → answer_by refuse row make (row.got o 0) ≡ make (row.value (row.got o 0))
  unfolding answer_by
  answers-good o e = rw (eq-eqb (named_at row 0 o) 0 e)

  pub placed : {usual : (ℕ → List ℕ) → ℕ → Type 0} → PrefixBut row usual → Placed refuse row make (λ field. usual field 0)
  placed p =
      record {
        within = λ field. p.within field 0;
        stays = λ field other h s. whole-read other ∙ stays field other h s;
        completed = λ field h u.
            let c = p.completed field 0 h u in
            let good = answers-good c.other c.accepted in
            record {
              other = c.other;
              before = λ j i. sym (ap c.other (zero-add (suc j))) ∙ c.before j i ∙ ap field (zero-add (suc j));
              clean = λ j i k. subst Clean (ap c.other (zero-add (suc j))) (c.clean j i k);
              read = whole-read c.other ∙ good;
            };
      }
    where
      stays : (field other : ℕ → List ℕ) → 0 < named_at row 0 field → Agree field other suc (named_at row 0 field)
          → answer_by refuse row make (row.got other 0) ≡ refuse 5 (named_at row 0 field)
      stays field other h s =
          let e = p.stays field other 0 h (λ j i. ap other (zero-add (suc j)) ∙ s j i ∙ sym (ap field (zero-add (suc j)))) in
          answers-wrong other (omega (arith, e)) ∙ ap (refuse 5) e
