-- Lines that each end with their only LF are cut again as they were: the cut goes on past every other byte and ends the line at LF. A line
-- that passes the line rule is such a line, since its body, its digits and CR are no LF.
use Prim.Native.Nat.{ℕ, ◌/◌, ◌%◌, ◌<◌}
use mathlib.Core.Path.{◌≡◌, refl, sym, ◌∙◌, ap, subst}
use mathlib.Core.List.{List, [], ◌∷◌, ◌++◌}
use mathlib.Core.Bool.{true}
use mathlib.Core.Logic.{◌⊎◌, inl, inr, ⊎_elim}
use native.Mathlib.Omega.{arith}
use lib.Dec.{lit<}
use borrow.Author.Tests.{ne_eqb, leb-true}
use Rattle.digits.specs.Hex.{hex_of}
use Rattle.digits.proofs.Bools.{and_left, and_right}
use Rattle.digits.proofs.HexLaws.{hex-cases}
use Rattle.line.specs.Line.{body_byte, body_bytes, xor_of, line_refusal, body_of}
use Rattle.line.proofs.Form.{accepted}
use Rattle.lines.specs.Cut.{before, cut_rest, cut_lines, joined}

-- A line that ends with its only LF; and lines that all do.
abbrev pub Ending : List ℕ → Type 0
Ending [] = ⊥
Ending (b ∷ s) = ((b ≡ 10) × (s ≡ [])) ⊎ ((b ≡ 10 → ⊥) × Ending s)

abbrev pub Endings : List (List ℕ) → Type 0
Endings [] = Unit {0}
Endings (l ∷ ls) = Ending l × Endings ls

one-back : (l r : List ℕ) → Ending l → cut_rest (l ++ r) ≡ l ∷ cut_rest r
unfolding cut_rest before
one-back [] r e = absurd e
one-back (b ∷ s) r e = ⊎_elim (last s) (λ p. other p (one-back s r p.1)) e
  where
    last : (s : List ℕ) → (b ≡ 10) × (s ≡ []) → cut_rest ((b ∷ s) ++ r) ≡ (b ∷ s) ∷ cut_rest r
    last s p = rw (p.0, p.1)

    other : (b ≡ 10 → ⊥) × Ending s → cut_rest (s ++ r) ≡ s ∷ cut_rest r → cut_rest ((b ∷ s) ++ r) ≡ (b ∷ s) ∷ cut_rest r
    other p ih = rw (ne_eqb b 10 p.0, ih)

rest_back : (ls : List (List ℕ)) → Endings ls → cut_rest (joined ls) ≡ ls
unfolding cut_rest
rest_back [] e = refl
rest_back (l ∷ ls) e = one-back l (joined ls) e.0 ∙ ap (λ (m : List (List ℕ)). l ∷ m) (rest_back ls e.1)

-- At least one such line: no bytes are cut as one empty line.
pub cut-back : (l : List ℕ) (ls : List (List ℕ)) → Endings (l ∷ ls) → cut_lines (joined (l ∷ ls)) ≡ l ∷ ls
unfolding cut_lines
cut-back [] ls e = absurd e.0
cut-back (b ∷ s) ls e = rest_back ((b ∷ s) ∷ ls) e

-- A byte before the last.
on : (b : ℕ) (s : List ℕ) → 10 < b → Ending s → Ending (b ∷ s)
on b s h e = inr (λ q. omega arith, e)

body-on : (s r : List ℕ) → body_bytes s ≡ true → Ending r → Ending (s ++ r)
unfolding body_bytes body_byte
body-on [] r h e = e
body-on (b ∷ s) r h e =
    let low = leb-true 32 b (and_left _ _ (and_left _ _ h)) in
    on b (s ++ r) (omega (arith, low)) (body-on s r (and_right (body_byte b) (body_bytes s) h) e)

hex-on : (n : ℕ) → 10 < hex_of n
hex-on n = ⊎_elim (λ p. omega (arith, p.1)) (λ p. omega (arith, p.1)) (hex-cases n)

pub passes-ending : (l : List ℕ) → line_refusal l ≡ 0 → Ending l
passes-ending l h =
    let p = accepted l h in
    let x = xor_of (body_of l) in
    subst Ending (sym p.1) (on 36 _ (lit< tt) (body-on (body_of l) _ p.0.good
    (on 42 _ (lit< tt) (on (hex_of (x / 16)) _ (hex-on (x / 16))
    (on (hex_of (x % 16)) _ (hex-on (x % 16)) (on 13 _ (lit< tt) (inl (refl, refl))))))))
