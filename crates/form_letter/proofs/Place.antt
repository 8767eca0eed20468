-- The place of a 5 in a letter: the first letter of the set is a text that it reads.
use Prim.Native.Nat.{ℕ}
use Prim.Native.String.{String}
use mathlib.Core.Bool.{true}
use mathlib.Core.List.{[], ◌∷◌, List}
use mathlib.Core.Path.{◌≡◌, refl, subst, sym}
use borrow.Author.Tests.{eq-eqb}
use Rattle.digits.specs.Ascii.{ascii}
use Rattle.form.proofs.Clean.{Clean}
use Rattle.form.proofs.PlaceForms.{prefix-told}
use Rattle.form.proofs.PlaceLaws.{PrefixForm}
use Rattle.form_letter.specs.Letters.{is_in, letter, letter_of, mode, modes, status, statuses}
use Rattle.form_letter.proofs.Back.{clean-mode, clean-status, in_clean}
use Rattle.form_letter.proofs.LetterLaws.{letter-reads}

-- A letter: the first of its set.
first-in : (b : ℕ) (s : List ℕ) → is_in b (b ∷ s) ≡ true
unfolding is_in
first-in b s = rw (eq-eqb b b refl)

pub prefix-letter : (set : String) {b : ℕ} {s : List ℕ} → ascii set ≡ b ∷ s → Clean (ascii set) → PrefixForm (letter set)
prefix-letter set {b} {s} e c =
    let i = subst (λ (l : List ℕ). is_in b l ≡ true) (sym e) (first-in b s) in
    prefix-told (letter_of (ascii set)) (b ∷ []) (in_clean (ascii set) b c i, tt) (letter-reads (ascii set) b i)

pub prefix-status : PrefixForm status
prefix-status = prefix-letter statuses refl clean-status

pub prefix-mode : PrefixForm mode
prefix-mode = prefix-letter modes refl clean-mode
