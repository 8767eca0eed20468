-- The place of a 5 in a form of two fields, of which the second does not change whether the value is there, nor whether the first is
-- wrong: a text that completes a first field that is read.
use Prim.Native.Nat.{◌<◌, ◌≤◌, suc, zero, ℕ}
use mathlib.Core.Bool.{Bool, false, not}
use mathlib.Core.List.{[], ◌∷◌, List}
use Rattle.std.specs.Prelude.{Option}
use mathlib.Core.Path.{◌∙◌, ◌≡◌, ap, sym}
use native.Mathlib.Omega.{arith}
use lib.Dec.{eqb, lit<}
use Rattle.form.specs.Row.{Form}
use Rattle.form.specs.declared.got.GotInt.{GotInt}
use Rattle.form.proofs.Clean.{Clean}
use Rattle.form.proofs.PlaceLaws.{Agree, Completed, PrefixForm}
use Rattle.form.proofs.PlaceSeveral.{empty, prefix-several, put-from, unread}
use Rattle.numbers.specs.Layout.{Layout}

-- What two fields read as: whether the value is there, and whether the first field is wrong.
pub record Sided (g : GotInt) (there bad : Bool) : Type 0 where
  pub is-there : g.there ≡ there
  pub is-bad : eqb g.wrong 1 ≡ bad
  pub most : g.wrong ≤ 2

-- A form of two such fields, with a text that completes a first field that is read.
abbrev of_two : {X : Type 0} → ℕ → Layout X → (List ℕ → List ℕ → GotInt) → (GotInt → X) → (X → ℕ) → (X → List (List ℕ)) → Form GotInt X
of_two most layout form value fault text =
    record {
      width = 2;
      most = most;
      got = λ field. form (field 1) (field 2);
      wrong = λ g. g.wrong;
      value = value;
      fault = fault;
      text = text;
      layout = layout;
    }

module _ (form : List ℕ → List ℕ → GotInt) (read : List ℕ → Option ℕ)
    (is : (a b : List ℕ) → Sided (form a b) (not (empty a)) (unread (empty a) (read a)))
    (none-good : (form [] []).wrong ≡ 0) (next : List ℕ → List ℕ) (clean : (a : List ℕ) → Clean (next a))
    (good : (a : List ℕ) → unread (empty a) (read a) ≡ false → (form a (next a)).wrong ≡ 0) where
  abbrev at : (ℕ → List ℕ) → ℕ
  at field = (form (field 1) (field 2)).wrong

  two-decided : (field other : ℕ → List ℕ) (k : ℕ) → 0 < k → k < 2 → Agree field other suc k → eqb (at other) k ≡ eqb (at field) k
  two-decided field other zero h i s = let z : ⊥ = omega arith in absurd z
  two-decided field other (suc zero) h i s =
      (is (other 1) (other 2)).is-bad
      ∙ ap (λ (f : List ℕ). unread (empty f) (read f)) (s 0 h)
      ∙ sym (is (field 1) (field 2)).is-bad
  two-decided field other (suc (suc k)) h i s = let z : ⊥ = omega arith in absurd z

  two-mended : (field : ℕ → List ℕ) (k : ℕ) → 0 < k → k ≤ 2 → at field ≡ k → Unit {0} → Completed at field suc 2 k
  two-mended field zero h i e u = let z : ⊥ = omega arith in absurd z
  two-mended field (suc zero) h i e u = put-from 1 [] tt none-good
  two-mended field (suc (suc zero)) h i e u =
      let b : eqb (at field) 1 ≡ false = rw e in
      put-from 2 (next (field 1) ∷ []) (clean (field 1), tt) (good (field 1) (sym (is (field 1) (field 2)).is-bad ∙ b))
  two-mended field (suc (suc (suc k))) h i e u = let z : ⊥ = omega arith in absurd z

  pub prefix-two : {X : Type 0} {most : ℕ} {layout : Layout X} {value : GotInt → X} {fault : X → ℕ} {text : X → List (List ℕ)}
      → PrefixForm (of_two most layout form value fault text)
  prefix-two {most = most} {layout} {value} {fault} {text} =
      prefix-several (of_two most layout form value fault text) (λ field other s. rw (s 0 (lit< tt), s 1 (lit< tt)))
      (λ field. (is (field 1) (field 2)).most) two-decided two-mended (λ field. put-from 1 [] tt none-good)
