-- The rows by what a host is told, who lends room for every record, are the rows of the sentence: a sentence that was read has no reason,
-- and a refused one is told its number and field.
use Prim.Native.Nat.{ℕ}
use mathlib.Core.Bool.{Bool, true, false}
use mathlib.Core.List.{List, ◌++◌}
use mathlib.Core.Path.{◌≡◌, refl, ap, ◌∙◌}
use native.Mathlib.Omega.{arith}
use lib.Dec.{eqb, leb}
use lib.IntN.{ℤ}
use lib.ListN.{length}
use borrow.Author.Tests.{le-leb}
use Rattle.digits.specs.Pick.{pick}
use Rattle.numbers.specs.declared.Told.{Told}
use Rattle.numbers.specs.Told.{told}
use Rattle.sentence.specs.Lines.{Refusal, refusal_of}
use Rattle.sentence.specs.Numbers.{kind_of, numbers_of}
use Rattle.sentence.specs.Sentence.{Sentence}
use Rattle.sentence.specs.ToHost.{told_for, told_of}
use Rattle.sentence_laws.proofs.LawfulLayouts.{most-numbers}
use Rattle.rows.specs.Row.{row_text}
use Rattle.rows.proofs.Whole.{row_is}
use Rattle.rows_words.specs.Worded.{place_text, reason_row, told_worded, worded_text}

-- The row of a reason, by what is told.
module _ (line : List ℕ) where
  abbrev By : Told → List ℕ
  By t = reason_row line t.no t.field

  told-reason : (r : Refusal) (kind : ℕ) → By (told_of r true kind) ≡ reason_row line r.no r.field
  unfolding told_of reason_row
  told-reason r kind = go (eqb r.no 0) refl
    where
      go : (b : Bool) → eqb r.no 0 ≡ b
          → By (pick b (told 0 kind 0) (told r.no 0 r.field)) ≡ reason_row line r.no r.field
      go true e = rw e
      go false e = refl

module _ (offset row n : ℕ) (line : List ℕ) (s : Sentence) (out : List ℤ) (room : length out ≡ 33) where
  enough : leb (length (numbers_of s)) (length out) ≡ true
  enough = le-leb (length (numbers_of s)) (length out) (omega (arith, most-numbers s, room))

  reason-is : By line (told_for s out) ≡ reason_row line (refusal_of s).no (refusal_of s).field
  reason-is = ap (λ (b : Bool). By line (told_of (refusal_of s) b (kind_of s))) enough ∙ told-reason line (refusal_of s) (kind_of s)

  pub worded-is : told_worded offset row n line (told_for s out) ≡ worded_text offset row n line s
  worded-is =
      ap (λ (x : List ℕ). place_text offset row ++ x ++ By line (told_for s out)) (row_is n line s out false room)
      ∙ ap (λ (x : List ℕ). place_text offset row ++ row_text n line s false ++ x) reason-is
