-- A row by what a host is told, who lends room for every record, is the row of the sentence: it has just as many numbers as its kind.
use Prim.Native.Nat.{ℕ}
use mathlib.Core.Bool.{Bool, true, false}
use mathlib.Core.List.{List, [], ◌∷◌, ◌++◌}
use mathlib.Core.Path.{◌≡◌, refl, sym, ap, ◌∙◌}
use native.Mathlib.Omega.{arith}
use lib.Dec.{eqb, leb}
use lib.IntN.{ℤ}
use lib.ListN.{length, take, drop}
use lib.Seq.{take_all, take_at}
use borrow.Author.Tests.{eqb-true, le-leb}
use Rattle.digits.specs.Pick.{pick}
use Rattle.sentence.specs.Lines.{refusal_of}
use Rattle.sentence.specs.Sentence as S
use Rattle.sentence.specs.Sentence.{Sentence}
use Rattle.numbers.specs.Numbers.{laid}
use Rattle.sentence.specs.Numbers.{count_of, kind_of, numbers_of}
use Rattle.numbers.specs.declared.Told.{Told}
use Rattle.sentence.specs.ToHost.{laid_for, told_for, told_of}
use Rattle.numbers.specs.Told.{told}
use Rattle.sentence_laws.proofs.LawfulLayouts.{many-numbers, most-numbers}
use Rattle.text.specs.Numbers.{decimal_text}
use Rattle.rows.specs.Row.{address_text, answer_text, asked_text, row_text, shown, told_row}

-- What is told where there is room: of a sentence that was read its kind, of a refused one the refusal.
module _ (n : ℕ) (line : List ℕ) (numbers : List ℤ) (asked : Bool) where
  abbrev By : Told → List ℕ
  By t = told_row n line t numbers asked

  refused : (k f : ℕ) → By (pick (eqb k 0) (told 0 0 0) (told k 0 f)) ≡ By (told k 0 f)
  unfolding answer_text
  refused k f = go (eqb k 0) refl
    where
      go : (t : Bool) → eqb k 0 ≡ t → By (pick t (told 0 0 0) (told k 0 f)) ≡ By (told k 0 f)
      go true e = rw (eqb-true k 0 e)
      go false e = refl

  told-row : (s : Sentence) → By (told_of (refusal_of s) true (kind_of s)) ≡ By (told (refusal_of s).no (kind_of s) (refusal_of s).field)
  unfolding told_of
  told-row (S.Gga t r) = refl
  told-row (S.Gll t r) = refl
  told-row (S.Gsa t r) = refl
  told-row (S.Gsv t r) = refl
  told-row (S.Rmc t r) = refl
  told-row (S.Vtg t r) = refl
  told-row (S.Zda t r) = refl
  told-row (S.Pr r) = refl
  told-row (S.Tr r) = refl
  told-row (S.Sr r) = refl
  told-row S.Er = refl
  told-row (S.Pa r) = refl
  told-row (S.Ta r) = refl
  told-row (S.Sa r) = refl
  told-row (S.Ea r) = refl
  told-row (S.Refused k f) = refused k f

module _ (n : ℕ) (line : List ℕ) (s : Sentence) (out : List ℤ) (asked : Bool) (room : length out ≡ 33) where
  abbrev kind : ℕ
  kind = kind_of s

  enough : leb (length (numbers_of s)) (length out) ≡ true
  enough = le-leb (length (numbers_of s)) (length out) (omega (arith, most-numbers s, room))

  same_numbers : take (count_of kind) (laid_for s out) ≡ take (count_of kind) (numbers_of s)
  unfolding laid
  same_numbers =
      let e = (many-numbers s).0 in
      rw enough (take_at (numbers_of s) (drop (length (numbers_of s)) out) (count_of kind) e)
      ∙ sym (take_all (count_of kind) (numbers_of s) (omega (arith, e)))

  same_asked : (b : Bool) → asked_text b kind (laid_for s out) ≡ asked_text b kind (numbers_of s)
  unfolding shown
  same_asked true = rw same_numbers
  same_asked false = refl

  pub row_is : told_row n line (told_for s out) (laid_for s out) asked ≡ row_text n line s asked
  row_is =
      ap (λ (b : Bool). told_row n line (told_of (refusal_of s) b kind) (laid_for s out) asked) enough
      ∙ (told-row n line (laid_for s out) asked s
      ∙ ap (λ (x : List ℕ). decimal_text n ++ (32 ∷ address_text (refusal_of s).no line)
      ++ (32 ∷ answer_text (refusal_of s).no (refusal_of s).field)
      ++ x ++ (10 ∷ [])) (same_asked asked))
