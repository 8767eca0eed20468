-- A line that the line rule refuses with 1 has a flaw, and one that it does not refuse with 1 has none: the words of a 1 can be relied on.
use Prim.Native.Nat.{ℕ}
use mathlib.Core.Path.{◌≡◌, refl, sym, ◌∙◌}
use mathlib.Core.List.{List}
use mathlib.Core.Bool.{Bool, true, false, cond}
use native.Mathlib.Omega.{arith}
use borrow.Author.Tests.{eq-eqb, eqb-true}
use Rattle.line.specs.Line.{body_of, end_gives, end_of, line_form, line_refusal, xor_of}
use Rattle.line_flaw.specs.Flaw.{flaw_of}
use Rattle.line_flaw.proofs.Laws.{flaw-none}

module _ (l : List ℕ) where
  abbrev gives : Bool
  gives = end_gives (xor_of (body_of l)) (end_of l)

  digits-no : Bool → ℕ
  digits-no b = cond b 0 2

  not-one : (b : Bool) → digits-no b ≡ 1 → ⊥
  unfolding digits-no
  not-one true e = omega (arith, e)
  not-one false e = omega (arith, e)

  pub refused-has-flaw : line_refusal l ≡ 1 → (flaw_of l).no ≡ 0 → ⊥
  unfolding line_refusal digits-no
  refused-has-flaw e z =
      let f : line_form l ≡ true = sym (flaw-none l) ∙ eq-eqb (flaw_of l).no 0 z in
      not-one gives (rw f at e)

  pub flaw-is-refused : ((flaw_of l).no ≡ 0 → ⊥) → line_refusal l ≡ 1
  unfolding line_refusal
  flaw-is-refused h = go (line_form l) refl
    where
      go : (b : Bool) → line_form l ≡ b → ◌≡◌ {A = ℕ} (cond b (cond gives 0 2) 1) 1
      go true f = absurd (h (eqb-true (flaw_of l).no 0 (flaw-none l ∙ f)))
      go false f = refl
