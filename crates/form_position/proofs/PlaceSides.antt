-- The place of a 5 in a value with its letter: half of a position, and a variation. The first letter completes a value that is read.
use Prim.Native.Nat.{ℕ}
use mathlib.Core.Bool.{◌||◌, Bool, false, not, true}
use mathlib.Core.List.{[], List}
use Rattle.std.specs.Prelude.{None, Option, Some}
use mathlib.Core.Path.{◌≡◌, ap, refl}
use lib.Dec.{lit<, lit≤}
use Rattle.digits.specs.Ascii.{ascii}
use Rattle.digits.specs.Pick.{pick}
use Rattle.digits.specs.Same.{same}
use Rattle.digits.specs.Sign.{signed}
use Rattle.form.specs.Got.{got_int_of, missing_int}
use Rattle.form.specs.declared.got.GotInt.{GotInt}
use Rattle.form.proofs.PlaceLaws.{PrefixForm}
use Rattle.form.proofs.PlaceSeveral.{empty, unread}
use Rattle.form.proofs.PlaceTwo.{prefix-two, Sided}
use Rattle.form_number.specs.Number.{below_of, half_circle}
use Rattle.form_position.specs.Angle.{lettered_of, variation_form, wrong_int}
use Rattle.form_position.specs.Forms.{variation}

module _ (plus minus u : List ℕ) where
  -- By whether the value is empty, whether its letter may stand without it, and what the value is read as.
  abbrev sided : Bool → Bool → Option ℕ → GotInt
  sided s t o = pick s (pick t missing_int (wrong_int 2 false)) (lettered_of plus minus u o)

  pub sided-is : (s t : Bool) (o : Option ℕ) → Sided (sided s t o) (not s) (unread s o)
  unfolding lettered_of
  sided-is true true o = record { is-there = refl; is-bad = refl; most = lit≤ tt }
  sided-is true false o = record { is-there = refl; is-bad = refl; most = lit≤ tt }
  sided-is false t None = record { is-there = refl; is-bad = refl; most = lit≤ tt }
  sided-is false t (Some v) = go (same u plus || same u minus)
    where
      go : (r : Bool) → Sided (pick r (got_int_of (Some (signed (same u minus) v))) (wrong_int 2 true)) true false
      go true = record { is-there = refl; is-bad = refl; most = lit≤ tt }
      go false = record { is-there = refl; is-bad = refl; most = lit≤ tt }

  pub sided-good : (s t : Bool) (o : Option ℕ) → unread s o ≡ false → (s ≡ true → t ≡ true) → (s ≡ false → same u plus ≡ true)
      → (sided s t o).wrong ≡ 0
  unfolding lettered_of
  sided-good true t o h p q = rw (p refl)
  sided-good false t None h p q = ap (λ (b : Bool). pick b 1 0) h
  sided-good false t (Some v) h p q = rw (q refl)

-- A variation: E.
abbrev degrees : List ℕ → Option ℕ
degrees f = below_of half_circle f

variation-is : (f u : List ℕ) → Sided (variation_form f u) (not (empty f)) (unread (empty f) (degrees f))
unfolding variation_form
variation-is f u = sided-is (ascii "E") (ascii "W") u (empty f) (empty u || (same u (ascii "E") || same u (ascii "W"))) (degrees f)

variation-none : (variation_form [] []).wrong ≡ 0
unfolding variation_form
variation-none = refl

variation-east : (f : List ℕ) → unread (empty f) (degrees f) ≡ false → (variation_form f (ascii "E")).wrong ≡ 0
unfolding variation_form same
variation-east f h = sided-good (ascii "E") (ascii "W") (ascii "E") (empty f) true (degrees f) h (λ e. refl) (λ e. refl)

pub prefix-variation : PrefixForm variation
prefix-variation =
    prefix-two variation_form degrees variation-is variation-none (λ f. ascii "E") (λ f. ((lit< tt, lit< tt), tt)) variation-east
