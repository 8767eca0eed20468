-- Laws of the line rule as the code meets it: one for each way out, and one for each byte of a body.
use Prim.Native.Nat.{ℕ, ◌+◌, ◌-◌, ◌≤◌, ◌<◌}
use mathlib.Core.Path.{◌∙◌, ◌≡◌, refl, sym}
use mathlib.Core.List.{[], ◌∷◌, List}
use mathlib.Core.Bool.{Bool, true, false, cond, ◌&&◌}
use native.Mathlib.Omega.{arith}
use native.Mathlib.Numerals.{add-one}
use lib.Dec.{leb}
use lib.ListN.{length, get_or, take, drop, drop_of_length-le}
use lib.Seq.{drop-cons}
use lib.Bits.{bit_xor}
use Rattle.std.specs.List.{fold}
use borrow.Author.Tests.{eq-eqb, ne_eqb, le-leb, leb-true, lt-leb}
use Rattle.digits.proofs.Bools.{and_assoc, and_left, and_right, and-true}
use Rattle.line.specs.Line.{body_byte, body_bytes, body_of, edge_form, end_form, end_gives, end_of, line_form, line_refusal, none_of}
use Rattle.line.specs.Line.{xor_from, xor_of}
use Rattle.line.specs.Ends.{ends_from, ends_in}

-- the ways out of the edges, in the code's order
module _ (l : List ℕ) where
  pub edges-short : length l < 7 → edge_form l ≡ false
  unfolding edge_form
  edges-short h = simp (lt-leb 7 (length l) h)

  module _ (h : 7 ≤ length l) where
    pub edges-long : 82 < length l → edge_form l ≡ false
    unfolding edge_form
    edges-long k = simp (le-leb 7 (length l) h, lt-leb (length l) 82 k)

    module _ (k : length l ≤ 82) where
      pub edges-other : (get_or l 0 0 ≡ 36 → ⊥) → edge_form l ≡ false
      unfolding edge_form
      edges-other n = simp (le-leb 7 (length l) h, le-leb (length l) 82 k, ne_eqb (get_or l 0 0) 36 n)

      pub edges-end : get_or l 0 0 ≡ 36 → edge_form l ≡ end_form (end_of l)
      unfolding edge_form
      edges-end d = simp (le-leb 7 (length l) h, le-leb (length l) 82 k, eq-eqb (get_or l 0 0) 36 d)

  pub edges-seven : edge_form l ≡ true → 7 ≤ length l
  unfolding edge_form
  edges-seven e = leb-true 7 (length l) (and_left _ _ e)

-- what the edges leave to the body and the digits, and the ends of its fields
module _ (l : List ℕ) (e : edge_form l ≡ false) where
  pub line-no-edges : line_refusal l ≡ 1
  unfolding line_refusal line_form
  line-no-edges = rw e

  pub ends-none : ends_in l ≡ []
  unfolding ends_in
  ends-none = rw e

module _ (l : List ℕ) (e : edge_form l ≡ true) where
  pub line-edges : line_refusal l ≡ cond (body_bytes (body_of l)) (cond (end_gives (xor_of (body_of l)) (end_of l)) 0 2) 1
  unfolding line_refusal line_form
  line-edges = rw e

  pub ends_there : ends_in l ≡ ends_from 0 (body_of l)
  unfolding ends_in
  ends_there = rw e

pub line-short : (l : List ℕ) → length l < 7 → line_refusal l ≡ 1
line-short l h = line-no-edges l (edges-short l h)

-- A plain byte may stand in a body, and is no comma.
pub plain-stands : (b : ℕ) → (leb 45 b && leb b 91) ≡ true → body_byte b ≡ true
unfolding body_byte none_of
plain-stands b t =
    let l = leb-true 45 b (and_left _ _ t) in
    let h = leb-true b 91 (and_right (leb 45 b) _ t) in
    rw (le-leb 0x20 b (omega arith), le-leb b 0x7E (omega arith), ne_eqb b 36 (λ e. omega arith), ne_eqb b 42 (λ e. omega arith))
    (rw (ne_eqb b 33 (λ e. omega arith), ne_eqb b 92 (λ e. omega arith), ne_eqb b 94 (λ e. omega arith))
    (rw (ne_eqb b 126 (λ e. omega arith))))

pub plain-no-comma : (b : ℕ) → (leb 45 b && leb b 91) ≡ true → b ≡ 44 → ⊥
plain-no-comma b t e = let l = leb-true 45 b (and_left _ _ t) in omega arith

-- one byte of a body, at place i
module _ (s : List ℕ) (i : ℕ) (h : i < length s) where
  pub good-next : (g : Bool) → (g && body_bytes (drop i s)) ≡ ((g && body_byte (get_or s i 0)) && body_bytes (drop (i + 1) s))
  unfolding body_bytes
  good-next g = rw (drop-cons s i 0 h, add-one) (sym (and_assoc g _ _))

  pub good-plain : body_byte (get_or s i 0) ≡ true → (g : Bool) → (g && body_bytes (drop i s)) ≡ (g && body_bytes (drop (i + 1) s))
  good-plain e g = good-next g ∙ rw (e, and-true g)

  pub xor-next : (x : ℕ) → xor_from x (drop i s) ≡ xor_from (bit_xor x (get_or s i 0)) (drop (i + 1) s)
  unfolding xor_from
  xor-next x = rw (drop-cons s i 0 h, add-one)

module _ (s : List ℕ) (i : ℕ) (h : length s ≤ i) where
  pub good-end : (g : Bool) → (g && body_bytes (drop i s)) ≡ g
  unfolding body_bytes
  good-end g = rw (drop_of_length-le s h) (and-true g)

  pub xor-end : (x : ℕ) → xor_from x (drop i s) ≡ x
  unfolding xor_from
  xor-end x = rw (drop_of_length-le s h)

-- The XOR, as a fold.
pub xor-fold : (x : ℕ) (s : List ℕ) → fold bit_xor x s ≡ xor_from x s
unfolding xor_from
xor-fold x [] = refl
xor-fold x (b ∷ s) = xor-fold (bit_xor x b) s

-- the part of a line between its first byte and its end, as the code lends it
pub body-part : (l : List ℕ) → take (length l - 5 - 1) (drop 1 l) ≡ body_of l
body-part l = let e : length l - 5 - 1 ≡ length l - 6 = omega arith in rw e
