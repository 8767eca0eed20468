-- The place of a 5 in a form of one field: it needs a text that it reads, an empty one where it may be empty.
use Prim.Native.Nat.{◌≤◌, ℕ}
use mathlib.Core.Bool.{Bool, cond, false, true}
use mathlib.Core.List.{[], List}
use Rattle.std.specs.Prelude.{None, Option, Some}
use mathlib.Core.Path.{◌≡◌, ap, refl}
use lib.Dec.{eqb, lit≤}
use lib.IntN.{ℤ}
use lib.ListN.{length}
use Rattle.digits.specs.Pick.{pick}
use Rattle.form.specs.Forms.{empty_field}
use Rattle.form.specs.Got.{got_int_of, got_of, maybe_int_of, maybe_of, missing, missing_int}
use Rattle.form.specs.Units.{empty_wrong}
use Rattle.form.specs.declared.got.Got.{Got}
use Rattle.form.specs.declared.got.GotInt.{GotInt}
use Rattle.form.proofs.Clean.{Clean}
use Rattle.form.proofs.Laws.{of_one}
use Rattle.form.proofs.PlaceLaws.{prefix-single, PrefixForm}
use Rattle.form.proofs.Values.{empty_back}
use Rattle.numbers.specs.Layout.{Layout}

-- What one field reads as names no other field; an empty one reads where it may be empty.
pub got-most : (o : Option ℕ) → (got_of o).wrong ≤ 1
got-most None = lit≤ tt
got-most (Some v) = lit≤ tt

pub maybe-most : (f : List ℕ) (o : Option ℕ) → (maybe_of f o).wrong ≤ 1
unfolding maybe_of
maybe-most f o = go (eqb (length f) 0)
  where
    go : (t : Bool) → (pick t missing (got_of o)).wrong ≤ 1
    go true = lit≤ tt
    go false = got-most o

pub int-most : (f : List ℕ) (o : Option ℤ) → (maybe_int_of f o).wrong ≤ 1
unfolding maybe_int_of
int-most f o = go (eqb (length f) 0) o
  where
    go : (t : Bool) (q : Option ℤ) → (pick t missing_int (got_int_of q)).wrong ≤ 1
    go true q = lit≤ tt
    go false None = lit≤ tt
    go false (Some z) = lit≤ tt

maybe-empty : (o : Option ℕ) → (maybe_of [] o).wrong ≡ 0
unfolding maybe_of
maybe-empty o = refl

int-empty : (o : Option ℤ) → (maybe_int_of [] o).wrong ≡ 0
unfolding maybe_int_of
int-empty o = refl

-- A field that may be empty; and one that may not, by a text and the value that it is read as.
module _ {X : Type 0} {most : ℕ} {layout : Layout X} {fault : X → ℕ} {text : X → List ℕ} where
  pub prefix-maybe : (form : List ℕ → Option ℕ) {value : Got → X}
      → PrefixForm (of_one most layout (λ s. maybe_of s (form s)) (λ g. g.wrong) value fault text)
  prefix-maybe form = prefix-single (λ s. maybe_of s (form s)) (λ s. maybe-most s (form s)) [] tt (maybe-empty (form []))

  pub prefix-maybe-int : (form : List ℕ → Option ℤ) {value : GotInt → X}
      → PrefixForm (of_one most layout (λ s. maybe_int_of s (form s)) (λ g. g.wrong) value fault text)
  prefix-maybe-int form = prefix-single (λ s. maybe_int_of s (form s)) (λ s. int-most s (form s)) [] tt (int-empty (form []))

  pub prefix-told : (form : List ℕ → Option ℕ) {value : Got → X} (s : List ℕ) {v : ℕ} → Clean s → form s ≡ Some v
      → PrefixForm (of_one most layout (λ t. got_of (form t)) (λ g. g.wrong) value fault text)
  prefix-told form s c e = prefix-single (λ t. got_of (form t)) (λ t. got-most (form t)) s c (ap (λ (o : Option ℕ). (got_of o).wrong) e)

-- A field that stays empty.
empty-most : (f : List ℕ) → empty_wrong f ≤ 1
unfolding empty_wrong
empty-most f = go (eqb (length f) 0)
  where
    go : (t : Bool) → cond t 0 1 ≤ 1
    go true = lit≤ tt
    go false = lit≤ tt

pub prefix-empty_field : PrefixForm empty_field
prefix-empty_field = prefix-single empty_wrong empty-most [] tt empty_back
