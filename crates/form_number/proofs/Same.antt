-- Digits of a fixed width are the digits of their value: what is written of them is the same bytes.
use Prim.Native.Nat.{ℕ}
use mathlib.Core.Bool.{Bool, false, true}
use mathlib.Core.List.{[], ◌∷◌, List}
use Rattle.std.specs.Prelude.{None, Option, Some}
use mathlib.Core.Path.{◌≡◌, refl, sym}
use native.Mathlib.Omega.{arith}
use lib.Dec.{eqb}
use lib.ListN.{length}
use borrow.Author.Tests.{eqb-true}
use Rattle.digits.specs.Decimal.{print_fixed}
use Rattle.digits.specs.Pick as G
use Rattle.digits.specs.Pick.{pick}
use Rattle.form.specs.Got.{got_of, maybe_of, missing}
use Rattle.form.specs.Values.{kept_of, maybe_text}
use Rattle.form.proofs.SameLaws.{only-first, SameForm}
use Rattle.form_number.specs.Fixed.{exact_form, fixed_form, fixed_of}
use Rattle.form_number.specs.Forms.{exact, fixed}
use Rattle.form_number.proofs.FixedLaws.{fixed-is}

-- Digits of a fixed width, in a field that is never empty and in one that may be.
empty-is : (f : List ℕ) → length f ≡ 0 → [] ≡ f
empty-is [] h = refl
empty-is (b ∷ f) h = let z : ⊥ = omega arith in absurd z

module _ (w lo hi : ℕ) (f : List ℕ) where
  pub exact_same : (exact_form w lo hi f).wrong ≡ 0 → print_fixed w (exact_form w lo hi f).value ≡ f
  exact_same e = go (fixed_of w lo hi f) refl e
    where
      go : (o : Option ℕ) → fixed_of w lo hi f ≡ o → (got_of o).wrong ≡ 0 → print_fixed w (got_of o).value ≡ f
      go None q i = let z : ⊥ = omega arith in absurd z
      go (Some v) q i = sym (fixed-is w lo hi f v q).0

  pub fixed_same : (fixed_form w lo hi f).wrong ≡ 0 → maybe_text (print_fixed w) (kept_of (fixed_form w lo hi f)) ≡ f
  unfolding maybe_of
  fixed_same e = go (eqb (length f) 0) (fixed_of w lo hi f) refl refl e
    where
      go : (t : Bool) (o : Option ℕ) → eqb (length f) 0 ≡ t → fixed_of w lo hi f ≡ o → (G.pick t missing (got_of o)).wrong ≡ 0
          → maybe_text (print_fixed w) (kept_of (G.pick t missing (got_of o))) ≡ f
      go true o p q i = empty-is f (eqb-true (length f) 0 p)
      go false None p q i = let z : ⊥ = omega arith in absurd z
      go false (Some v) p q i = sym (fixed-is w lo hi f v q).0

pub same-exact : (w lo hi : ℕ) → SameForm (exact w lo hi)
same-exact w lo hi = record { same = λ field e. only-first field _ (sym (exact_same w lo hi (field 1) e)) }

pub same-fixed : (w lo hi : ℕ) → SameForm (fixed w lo hi)
same-fixed w lo hi = record { same = λ field e. only-first field _ (sym (fixed_same w lo hi (field 1) e)) }
