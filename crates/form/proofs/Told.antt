-- What a row's reader tells and leaves: the refusal of the first wrong field, or what is made of the values; before both, of a wrong count.
use Prim.Native.Nat.{ℕ}
use mathlib.Core.Path.{◌∙◌, ◌≡◌, ap, sym}
use mathlib.Core.Bool.{Bool}
use mathlib.Core.List.{List}
use borrow.Author.Tests.{eq-eqb, ne_eqb}
use lib.IntN.{ℤ}
use Rattle.digits.specs.Pick.{pick}
use Rattle.numbers.specs.Told.{Answer, refuses, Tells, told}
use Rattle.numbers.specs.declared.Told.{Told}
use Rattle.numbers.proofs.Rows.{tells_as, tells-refused}
use Rattle.form.specs.Kind.{answer_by, read_by}
use Rattle.form.specs.Row.{Row}

module _ {G R : Type 0} (out : List ℤ) (row : Row G R) (make : R → Answer) {t : Told} where
  pub tells-wrong : (g : G) (w : ℕ) → t ≡ told 5 0 w → w ≡ row.wrong g 0 0 → (w ≡ 0 → ⊥) → Tells (answer_by (refuses out) row make g) t out
  unfolding answer_by
  tells-wrong g w e i h =
      tells-refused e (ap (λ (n : ℕ). refuses out 5 n) i
      ∙ ap (λ (b : Bool). pick b (make (row.value g)) (refuses out 5 (row.wrong g 0 0)))
      (sym (ne_eqb (row.wrong g 0 0) 0 (λ z. h (i ∙ z)))))

  pub tells-right : {left : List ℤ} (g : G) (v : R) → Tells (make v) t left → row.wrong g 0 0 ≡ 0 → v ≡ row.value g
      → Tells (answer_by (refuses out) row make g) t left
  unfolding answer_by
  tells-right g v p h e =
      tells_as p (ap make e
      ∙ ap (λ (b : Bool). pick b (make (row.value g)) (refuses out 5 (row.wrong g 0 0))) (sym (eq-eqb (row.wrong g 0 0) 0 h)))

  module _ (n : ℕ) (field : ℕ → List ℕ) where
    pub tells-count : t ≡ told 4 0 0 → (n ≡ row.width → ⊥) → Tells (read_by (refuses out) row make n field) t out
    unfolding read_by
    tells-count e h =
        tells-refused e
        (ap (λ (b : Bool). pick b (answer_by (refuses out) row make (row.got field 0)) (refuses out 4 0)) (sym (ne_eqb n row.width h)))

    pub tells-fields : {left : List ℤ} (g : G) → Tells (answer_by (refuses out) row make g) t left → n ≡ row.width → g ≡ row.got field 0
        → Tells (read_by (refuses out) row make n field) t left
    unfolding read_by
    tells-fields g p h e =
        tells_as p (ap (answer_by (refuses out) row make) e
        ∙ ap (λ (b : Bool). pick b (answer_by (refuses out) row make (row.got field 0)) (refuses out 4 0)) (sym (eq-eqb n row.width h)))
