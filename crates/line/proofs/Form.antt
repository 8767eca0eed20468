-- The line rule from both sides. What has the form of a line is taken apart into `$`, body and end, and put together again;
-- the number is then decided by the two digits alone.
use Prim.Native.Nat.{ℕ, suc, ◌+◌, ◌-◌, ◌/◌, ◌%◌, ◌≤◌, ◌<◌, ◌^◌}
use mathlib.Core.Path.{◌≡◌, refl, sym, ◌∙◌, ap, ap₂}
use mathlib.Core.List.{List, [], ◌∷◌, ◌++◌}
use mathlib.Core.Bool.{Bool, true, false, cond, ◌&&◌}
use native.Mathlib.Omega.{arith}
use lib.ListN.{length, get_or, length-append, length-take, length-drop, take-append-drop}
use lib.Seq.{take_at, drop_at}
use lib.Dec.{leb, eqb}
use mathlib.Core.Logic.{◌⊎◌, inl, inr}
use lib.Bits.{bit_xor, xor_lt}
use borrow.Author.Tests.{eqb-true, eq-eqb, leb-true, le-leb}
use Rattle.digits.specs.Hex.{hex_digit, hex_of}
use Rattle.digits.proofs.Bools.{and_left, and_right, and_both, true-false, pick_first, pick_second, no}
use Rattle.digits.proofs.HexLaws.{hex-is}
use Rattle.line.specs.Line.{body_byte, body_bytes, xor_from, xor_of, body_of, edge_form, end_of, end_form, line_form, end_gives, line_refusal}
use Rattle.line.specs.Line.{as_line, line_with}
use Rattle.line.proofs.Laws.{edges-seven}

-- A body that a line can have: allowed bytes, 1 to 76 of them.
pub record Body (s : List ℕ) : Type 0 where
  pub good : body_bytes s ≡ true
  pub some : 1 ≤ length s
  pub room : length s ≤ 76

-- What has the form of a line, whatever its digits.
pub record Formed (l : List ℕ) : Type 0 where
  pub body : Body (body_of l)
  pub high : hex_digit (get_or (end_of l) 1 0) ≡ true
  pub low : hex_digit (get_or (end_of l) 2 0) ≡ true
  pub whole : l ≡ line_with (body_of l) (get_or (end_of l) 1 0) (get_or (end_of l) 2 0)

five : (t : List ℕ) → length t ≡ 5 → t ≡ get_or t 0 0 ∷ get_or t 1 0 ∷ get_or t 2 0 ∷ get_or t 3 0 ∷ get_or t 4 0 ∷ []
five [] h = let z : ⊥ = omega arith in absurd z
five (a ∷ []) h = let z : ⊥ = omega arith in absurd z
five (a ∷ b ∷ []) h = let z : ⊥ = omega arith in absurd z
five (a ∷ b ∷ c ∷ []) h = let z : ⊥ = omega arith in absurd z
five (a ∷ b ∷ c ∷ d ∷ []) h = let z : ⊥ = omega arith in absurd z
five (a ∷ b ∷ c ∷ d ∷ e ∷ []) h = refl
five (a ∷ b ∷ c ∷ d ∷ e ∷ f ∷ t) h = let z : ⊥ = omega arith in absurd z

-- `$`, then the body, then the end
three : (l : List ℕ) → 7 ≤ length l → get_or l 0 0 ≡ 36 → l ≡ 36 ∷ body_of l ++ end_of l
three [] h e = let z : ⊥ = omega arith in absurd z
three (b ∷ s) h e =
    let j : suc (length s) - 6 ≡ length s - 5 = omega arith in
    let k : suc (length s) - 5 ≡ suc (length s - 5) = omega arith in
    rw (j, k, e) (ap (λ (t : List ℕ). 36 ∷ t) (sym (take-append-drop (length s - 5) s)))

end-five : (l : List ℕ) → 7 ≤ length l → length (end_of l) ≡ 5
end-five l h = simp length-drop (omega arith)

-- the end, byte by byte
record End (t : List ℕ) : Type 0 where
  pub high : hex_digit (get_or t 1 0) ≡ true
  pub low : hex_digit (get_or t 2 0) ≡ true
  pub whole : t ≡ 42 ∷ get_or t 1 0 ∷ get_or t 2 0 ∷ 13 ∷ 10 ∷ []

end-formed : (t : List ℕ) → length t ≡ 5 → end_form t ≡ true → End t
unfolding end_form
end-formed t h f =
    let f1 = and_right (eqb (get_or t 0 0) 42) _ f in
    let f2 = and_right (hex_digit (get_or t 1 0)) _ f1 in
    let f3 = and_right (hex_digit (get_or t 2 0)) _ f2 in
    let star = eqb-true (get_or t 0 0) 42 (and_left _ _ f) in
    let cr = eqb-true (get_or t 3 0) 13 (and_left _ _ f3) in
    let lf = eqb-true (get_or t 4 0) 10 (and_right (eqb (get_or t 3 0) 13) _ f3) in
    record { high = and_left _ _ f1; low = and_left _ _ f2; whole = five t h ∙ rw (star, cr, lf) }

pub formed : (l : List ℕ) → line_form l ≡ true → Formed l
unfolding line_form edge_form
formed l f =
    let f0 = and_left (edge_form l) _ f in
    let f1 = and_right (leb 7 (length l)) _ f0 in
    let f2 = and_right (leb (length l) 82) _ f1 in
    let seven = leb-true 7 (length l) (and_left _ _ f0) in
    let most = leb-true (length l) 82 (and_left _ _ f1) in
    let t = end-formed (end_of l) (end-five l seven) (and_right (eqb (get_or l 0 0) 36) _ f2) in
    record {
      body = record {
        good = and_right (edge_form l) _ f;
        some = simp (length-take, length-drop) (omega arith);
        room = simp (length-take, length-drop) (omega arith);
      };
      high = t.high;
      low = t.low;
      whole = three l seven (eqb-true (get_or l 0 0) 36 (and_left _ _ f2)) ∙ ap (λ (r : List ℕ). 36 ∷ body_of l ++ r) t.whole;
    }

-- the parts of what was put together
module _ (body : List ℕ) (d e : ℕ) where
  abbrev tail : List ℕ
  tail = 42 ∷ d ∷ e ∷ 13 ∷ 10 ∷ []

  pub with-length : length (line_with body d e) ≡ length body + 6
  with-length = simp length-append (omega arith)

  pub body-of : body_of (line_with body d e) ≡ body
  body-of = take_at body tail (length (line_with body d e) - 6) (omega (arith, with-length))

  pub end-of : end_of (line_with body d e) ≡ tail
  end-of =
      let k : length (line_with body d e) - 5 ≡ suc (length body) = omega (arith, with-length) in
      rw k (drop_at body tail (length body) refl)

  pub form_of : Body body → hex_digit d ≡ true → hex_digit e ≡ true → line_form (line_with body d e) ≡ true
  unfolding line_form edge_form end_form
  form_of b h l =
      let lo : leb 7 (length (line_with body d e)) ≡ true = le-leb 7 (length (line_with body d e)) (omega (arith, with-length, b.some)) in
      let hi : leb (length (line_with body d e)) 82 ≡ true = le-leb (length (line_with body d e)) 82 (omega (arith, with-length, b.room)) in
      rw (lo, hi, end-of, body-of, h, l, b.good)

  gives_of : (x : ℕ) → end_gives x (end_of (line_with body d e)) ≡ (eqb d (hex_of (x / 16)) && eqb e (hex_of (x % 16)))
  unfolding end_gives
  gives_of x = rw end-of

-- What is accepted is `$`, a body, `*`, the two digits of its XOR, CR, LF.
pub accepted : (l : List ℕ) → line_refusal l ≡ 0 → Body (body_of l) × (l ≡ as_line (body_of l))
unfolding line_refusal end_gives
accepted l f =
    let p = pick_first (line_form l) _ 1 0 (omega arith) f in
    let q = (pick_first (end_gives (xor_of (body_of l)) (end_of l)) 0 2 0 (omega arith) p.1).0 in
    let r = formed l p.0 in
    let x = xor_of (body_of l) in
    let d = eqb-true (get_or (end_of l) 1 0) (hex_of (x / 16)) (and_left _ _ q) in
    let e = eqb-true (get_or (end_of l) 2 0) (hex_of (x % 16)) (and_right (eqb (get_or (end_of l) 1 0) (hex_of (x / 16))) _ q) in
    (r.body, r.whole ∙ ap₂ (line_with (body_of l)) d e)

body-bound : (b : ℕ) → body_byte b ≡ true → b < 2 ^ 8
unfolding body_byte
body-bound b e = omega (arith, leb-true b 0x7E (and_left _ _ (and_right (leb 0x20 b) _ e)))

xor-bound : (x : ℕ) (s : List ℕ) → x < 2 ^ 8 → body_bytes s ≡ true → xor_from x s < 2 ^ 8
unfolding body_bytes xor_from
xor-bound x [] h e = h
xor-bound x (b ∷ s) h e = xor-bound (bit_xor x b) s (xor_lt 8 x b h (body-bound b (and_left _ _ e))) (and_right (body_byte b) _ e)

-- The XOR of a body has two hex digits.
pub xor-byte : (s : List ℕ) → body_bytes s ≡ true → xor_of s < 256
unfolding xor_of
xor-byte s e = xor-bound 0 s (omega arith) e

-- the number of a form is decided by its digits
decided : (body : List ℕ) (d e : ℕ) → Body body → hex_digit d ≡ true → hex_digit e ≡ true
    → line_refusal (line_with body d e) ≡ cond (eqb d (hex_of (xor_of body / 16)) && eqb e (hex_of (xor_of body % 16))) 0 2
unfolding line_refusal
decided body d e b h l = rw (form_of body d e b h l, body-of body d e, gives_of body d e (xor_of body))

-- Every such list is accepted.
pub accepts : (body : List ℕ) → Body body → line_refusal (as_line body) ≡ 0
accepts body b =
    let x = xor-byte body b.good in
    decided body _ _ b (hex-is (xor_of body / 16) (omega arith)) (hex-is (xor_of body % 16) (omega arith))
    ∙ rw (eq-eqb (hex_of (xor_of body / 16)) _ refl, eq-eqb (hex_of (xor_of body % 16)) _ refl)

-- The digits d and e are not those of the XOR of the body.
abbrev pub OtherDigits : List ℕ → ℕ → ℕ → Type 0
OtherDigits body d e = d ≡ hex_of (xor_of body / 16) → e ≡ hex_of (xor_of body % 16) → ⊥

-- Refused with 2 is exactly what has the form of a line with other digits.
pub refused-two : (l : List ℕ) → line_refusal l ≡ 2 → Formed l × OtherDigits (body_of l) (get_or (end_of l) 1 0) (get_or (end_of l) 2 0)
unfolding line_refusal end_gives
refused-two l f =
    let p = pick_first (line_form l) _ 1 2 (omega arith) f in
    let q = (pick_second (end_gives (xor_of (body_of l)) (end_of l)) 0 2 2 (omega arith) p.1).0 in
    let x = xor_of (body_of l) in (
      formed l p.0,
      λ d e. true-false
          (and_both _ _ (eq-eqb (get_or (end_of l) 1 0) (hex_of (x / 16)) d) (eq-eqb (get_or (end_of l) 2 0) (hex_of (x % 16)) e)) q,
    )

pub refuses-two : (body : List ℕ) (d e : ℕ) → Body body → hex_digit d ≡ true → hex_digit e ≡ true → OtherDigits body d e
    → line_refusal (line_with body d e) ≡ 2
refuses-two body d e b h l n = decided body d e b h l ∙ no _ 0 2 (go (eqb d _ && eqb e _) refl)
  where
    go : (t : Bool) → (eqb d (hex_of (xor_of body / 16)) && eqb e (hex_of (xor_of body % 16))) ≡ t → t ≡ false
    go true f = absurd (n (eqb-true d (hex_of (xor_of body / 16)) (and_left _ _ f))
        (eqb-true e (hex_of (xor_of body % 16)) (and_right (eqb d (hex_of (xor_of body / 16))) _ f)))
    go false f = refl

-- Every answer is 0, 1 or 2.
abbrev pub Answer : ℕ → Type 0
Answer n = (n ≡ 0) ⊎ ((n ≡ 1) ⊎ (n ≡ 2))

answer-pick : (b : Bool) (n m : ℕ) → Answer n → Answer m → Answer (cond b n m)
answer-pick true n m p q = p
answer-pick false n m p q = q

pub line-answer : (l : List ℕ) → Answer (line_refusal l)
unfolding line_refusal
line-answer l =
    answer-pick (line_form l) _ 1 (answer-pick (end_gives (xor_of (body_of l)) (end_of l)) 0 2 (inl refl) (inr (inr refl))) (inr (inl refl))

-- What passes has the edges of a line, and so at least 7 bytes.
pub passes-edges : (l : List ℕ) → line_refusal l ≡ 0 → edge_form l ≡ true
unfolding line_refusal line_form
passes-edges l e = and_left (edge_form l) _ (pick_first (line_form l) _ 1 0 (omega arith) e).0

pub passes-long : (l : List ℕ) → line_refusal l ≡ 0 → 7 ≤ length l
passes-long l e = edges-seven l (passes-edges l e)
