-- A letter of a set is clean, is read back, and was one of the set.
use Prim.Native.Nat.{◌%◌, ◌<◌, ◌≤◌, ℕ}
use mathlib.Core.Bool.{◌||◌, Bool, false, true, true≢false}
use mathlib.Core.List.{[], ◌∷◌, List}
use Rattle.std.specs.Prelude.{None, Option, Some}
use mathlib.Core.Path.{◌≡◌, ap, refl, subst, sym}
use native.Mathlib.Omega.{arith}
use lib.Dec.{eqb, lit<}
use lib.ListN.{length}
use borrow.Author.Tests.{eqb-true}
use Rattle.digits.specs.Ascii.{ascii}
use Rattle.form.specs.Got.{got_of}
use Rattle.form.proofs.Clean.{Clean}
use Rattle.form.proofs.Values.{the_got, zero_one}
use Rattle.form_letter.specs.Letters.{is_in, letter_field, letter_of, letter_wrong}
use Rattle.form_letter.proofs.LetterLaws.{letter-is, letter-reads}

pub in_clean : (set : List ℕ) (v : ℕ) → Clean set → is_in v set ≡ true → (44 < v) × (v < 92)
unfolding is_in
in_clean [] v c e = absurd (true≢false (sym e))
in_clean (b ∷ set) v c e = go (eqb b v) refl e (in_clean set v c.1)
  where
    go : (t : Bool) → eqb b v ≡ t → (t || is_in v set) ≡ true → (is_in v set ≡ true → (44 < v) × (v < 92)) → (44 < v) × (v < 92)
    go true q i k = let p = eqb-true b v q in (omega (arith, c.0.0), omega (arith, c.0.1))
    go false q i k = k i

pub letter-in : (set : List ℕ) (v : ℕ) → letter_wrong set v ≡ 0 → is_in v set ≡ true
unfolding letter_wrong
letter-in set v e = zero_one (is_in v set) e

pub letter-same : (set : List ℕ) (v : ℕ) → Clean set → letter_wrong set v ≡ 0 → letter_field v ≡ v ∷ []
letter-same set v c e =
    let i = in_clean set v c (letter-in set v e) in
    let q : v % 256 ≡ v = omega (arith, i.1) in
    ap (λ (x : ℕ). x ∷ []) q

pub clean-letter : (set : List ℕ) (v : ℕ) → Clean set → letter_wrong set v ≡ 0 → Clean (letter_field v)
clean-letter set v c e = subst (λ (s : List ℕ). Clean s) (sym (letter-same set v c e)) (in_clean set v c (letter-in set v e), tt)

pub clean-status : Clean (ascii "AV")
clean-status = ((lit< tt, lit< tt), ((lit< tt, lit< tt), tt))

pub clean-mode : Clean (ascii "ADEMSN")
clean-mode = (
  (lit< tt, lit< tt),
  ((lit< tt, lit< tt), ((lit< tt, lit< tt), ((lit< tt, lit< tt), ((lit< tt, lit< tt), ((lit< tt, lit< tt), tt))))),
)

pub clean-selection : Clean (ascii "MA")
clean-selection = ((lit< tt, lit< tt), ((lit< tt, lit< tt), tt))

pub letter-back : (set : List ℕ) (v : ℕ) → Clean set → letter_wrong set v ≡ 0 → got_of (letter_of set (letter_field v)) ≡ the_got true v
letter-back set v c e = rw (letter-same set v c e, letter-reads set v (letter-in set v e))

pub letter-in-set : (set f : List ℕ) → (got_of (letter_of set f)).wrong ≡ 0 → letter_wrong set (got_of (letter_of set f)).value ≡ 0
unfolding letter_wrong
letter-in-set set f e = go (letter_of set f) refl e
  where
    go : (o : Option ℕ) → letter_of set f ≡ o → (got_of o).wrong ≡ 0 → letter_wrong set (got_of o).value ≡ 0
    go None q i = let z : ⊥ = omega arith in absurd z
    go (Some v) q i = let l = letter-is set f v q in rw l.1

pub letter-short : (set f : List ℕ) → (got_of (letter_of set f)).wrong ≡ 0 → length (letter_field (got_of (letter_of set f)).value) ≤ length f
letter-short set f e = go (letter_of set f) refl e
  where
    go : (o : Option ℕ) → letter_of set f ≡ o → (got_of o).wrong ≡ 0 → length (letter_field (got_of o).value) ≤ length f
    go None q i = let z : ⊥ = omega arith in absurd z
    go (Some v) q i = let l = letter-is set f v q in rw l.0 (omega arith)
