-- The numbers that a host was lent after it read a line, whole as they are, say the record of that line: the tests of the answer leave one
-- way to a kind, and on it the numbers were laid.
use Prim.Native.Nat.{ℕ}
use mathlib.Core.Path.{◌∙◌, ◌≡◌, ap, refl, sym}
use mathlib.Core.Bool.{Bool, false, true, true≢false}
use mathlib.Core.List.{[], ◌++◌, List}
use lib.Dec.{eqb, leb}
use lib.IntN.{ℤ}
use lib.ListN.{drop, length}
use Rattle.sentence.specs.Sentence.{Sentence}
use Rattle.sentence.specs.Sentence as S
use Rattle.sentence.specs.Lines.{read_line, refusal_of}
use Rattle.digits.specs.Pick.{pick}
use Rattle.numbers.specs.Numbers.{laid}
use Rattle.sentence.specs.Numbers.{kind_of, numbers_of}
use Rattle.numbers.proofs.Rows.{laid_none}
use Rattle.sentence.specs.Back.{record_at}
use Rattle.numbers.specs.declared.Told.{Told}
use Rattle.sentence.specs.ToHost.{laid_for, told_for, told_of}
use Rattle.numbers.specs.Told.{told}
use Rattle.sentence_laws.proofs.Crossing.{Crosses, read-crosses}

-- Without room nothing is laid.
no_room : (numbers values : List ℤ) → leb (length values) (length numbers) ≡ false → laid values numbers ≡ numbers
unfolding laid
no_room numbers values e = ap (λ b. pick b (values ++ drop (length values) numbers) numbers) e

-- What is told of a reading, by whether it is one and whether there is room.
abbrev tell_by : Sentence → Bool → Bool → Told
tell_by r a b =
    pick a (pick b (told 0 (kind_of r) 0) (told 8 0 0)) (told (refusal_of r).no 0 (refusal_of r).field)

laid-back : (r : Sentence) → Crosses r → (numbers : List ℤ) → ((told_for r numbers).kind ≡ 0 → ⊥)
    → record_at (told_for r numbers).kind (laid_for r numbers) ≡ r
unfolding told_of laid
laid-back r crosses numbers = go (eqb (refusal_of r).no 0) (leb (length (numbers_of r)) (length numbers))
  where
    go : (a b : Bool)
        → ((tell_by r a b).kind ≡ 0 → ⊥)
        → record_at (tell_by r a b).kind (pick b (numbers_of r ++ drop (length (numbers_of r)) numbers) numbers) ≡ r
    go true true h = crosses h (drop (length (numbers_of r)) numbers)
    go true false h = absurd (h refl)
    go false b h = absurd (h refl)

-- Where a host is told a kind, the kind and its numbers say what the line was read to.
pub host-back : (l : List ℕ) (numbers : List ℤ) → ((told_for (read_line l) numbers).kind ≡ 0 → ⊥)
    → record_at (told_for (read_line l) numbers).kind (laid_for (read_line l) numbers) ≡ read_line l
host-back l numbers h = laid-back (read_line l) (read-crosses l) numbers h

-- A refused line has no numbers.
no-numbers : (s : Sentence) → eqb (refusal_of s).no 0 ≡ false → numbers_of s ≡ []
no-numbers (S.Gga t r) e = absurd (true≢false e)
no-numbers (S.Gll t r) e = absurd (true≢false e)
no-numbers (S.Gsa t r) e = absurd (true≢false e)
no-numbers (S.Gsv t r) e = absurd (true≢false e)
no-numbers (S.Rmc t r) e = absurd (true≢false e)
no-numbers (S.Vtg t r) e = absurd (true≢false e)
no-numbers (S.Zda t r) e = absurd (true≢false e)
no-numbers (S.Pr r) e = absurd (true≢false e)
no-numbers (S.Tr r) e = absurd (true≢false e)
no-numbers (S.Sr r) e = absurd (true≢false e)
no-numbers S.Er e = absurd (true≢false e)
no-numbers (S.Pa r) e = absurd (true≢false e)
no-numbers (S.Ta r) e = absurd (true≢false e)
no-numbers (S.Sa r) e = absurd (true≢false e)
no-numbers (S.Ea r) e = absurd (true≢false e)
no-numbers (S.Refused n f) e = refl

-- Where a host is told a refusal, its numbers are as they were.
pub refusal-leaves : (r : Sentence) (numbers : List ℤ) → ((told_for r numbers).no ≡ 0 → ⊥) → laid_for r numbers ≡ numbers
unfolding told_of
refusal-leaves r numbers = go (eqb (refusal_of r).no 0) (leb (length (numbers_of r)) (length numbers)) refl refl
  where
    go : (a b : Bool) → eqb (refusal_of r).no 0 ≡ a → leb (length (numbers_of r)) (length numbers) ≡ b
        → ((tell_by r a b).no ≡ 0 → ⊥) → laid_for r numbers ≡ numbers
    go true true p q h = absurd (h refl)
    go true false p q h = no_room numbers (numbers_of r) q
    go false b p q h = ap (λ l. laid l numbers) (no-numbers r p) ∙ sym (laid_none numbers).1
