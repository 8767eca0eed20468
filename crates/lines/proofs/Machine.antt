-- Lines one after another as a machine that runs both ways: the byte and the state after it give the state before it, and the two
-- states give the byte. So of two runs of lines that pass the rule none is the other with one byte changed, dropped or added.
use Prim.Native.Nat.{ℕ, ◌+◌, ◌*◌, ◌/◌, ◌%◌, ◌≤◌}
use mathlib.Core.Path.{◌≡◌, refl, sym, ◌∙◌, ap}
use mathlib.Core.List.{List, [], ◌∷◌, ◌++◌}
use mathlib.Core.Bool.{Bool, true, false, cond}
use native.Mathlib.Omega.{arith}
use lib.Dec.{eqb}
use lib.Bits.{bit_xor, xor_comm}
use borrow.Author.Tests.{eqb-true, eq-eqb, ne_eqb, leb-true}
use Rattle.digits.specs.Hex.{hex_of, hex_value}
use Rattle.digits.proofs.Bools.{and_left, and_right, true-false}
use Rattle.digits.proofs.HexLaws.{value_of}
use Rattle.line.specs.Line.{none_of, body_byte, body_bytes, xor_from, xor_of, line_refusal, body_of, as_line}
use Rattle.line.proofs.Xor.{xor-back, xor-fixed}
use Rattle.line.proofs.Form.{accepted}
use Rattle.lines.specs.Cut.{cut_lines, joined}
use Rattle.lines.specs.Edit.{OneByte, changed, dropped, added}
use Rattle.lines.proofs.CutLaws.{cut-joined}

-- before a line; in a body with this XOR; before the two digits of this XOR; before this digit; before CR; before LF; past a fault
pub data St : Type 0 where
  start cr lf dead : St
  body high low : ℕ → St

abbrev pub step : St → ℕ → St
step start b = cond (eqb b 36) (body 0) dead
step (body x) b = cond (eqb b 42) (high x) (cond (body_byte b) (body (bit_xor x b)) dead)
step (high x) b = cond (eqb b (hex_of (x / 16))) (low (x % 16)) dead
step (low d) b = cond (eqb b (hex_of d)) cr dead
step cr b = cond (eqb b 13) lf dead
step lf b = cond (eqb b 10) start dead
step dead b = dead

-- the state before
abbrev pub back : ℕ → St → St
back b start = lf
back b (body v) = cond (eqb b 36) start (body (bit_xor v b))
back b (high x) = body x
back b (low d) = high (hex_value b * 16 + d)
back b cr = low (hex_value b)
back b lf = cr
back b dead = dead

-- the byte between
abbrev pub from_body : ℕ → St → ℕ
from_body x (body v) = bit_xor v x
from_body x (high v) = 42
from_body x (low v) = 0
from_body x start = 0
from_body x cr = 0
from_body x lf = 0
from_body x dead = 0

abbrev pub between : St → St → ℕ
between start q = 36
between (body x) q = from_body x q
between (high x) q = hex_of (x / 16)
between (low d) q = hex_of d
between cr q = 13
between lf q = 10
between dead q = 0

-- what a step that does not fail says
pub record Stepped (q : St) (b : ℕ) : Type 0 where
  pub was : back b (step q b) ≡ q
  pub byte : between q (step q b) ≡ b
  pub moved : step q b ≡ q → ⊥

-- a byte of a body is neither `$` nor `*`, and no less than 32
body-not : (b c : ℕ) → body_byte c ≡ false → body_byte b ≡ true → b ≡ c → ⊥
body-not b c f e h = true-false (rw h at e) f

body-dollar : (b : ℕ) → body_byte b ≡ true → b ≡ 36 → ⊥
unfolding body_byte none_of
body-dollar b = body-not b 36 refl

body-star : (b : ℕ) → body_byte b ≡ true → b ≡ 42 → ⊥
unfolding body_byte none_of
body-star b = body-not b 42 refl

body-low : (b : ℕ) → body_byte b ≡ true → 32 ≤ b
unfolding body_byte
body-low b e = leb-true 32 b (and_left _ _ e)

alive : (t : Bool) (q : St) → (cond t q dead ≡ dead → ⊥) → t ≡ true
alive true q n = refl
alive false q n = absurd (n refl)

module _ (b x : ℕ) where
  step-star : eqb b 42 ≡ true → Stepped (body x) b
  step-star t =
      record {
        was = simp t;
        byte = simp t (sym (eqb-true b 42 t));
        moved = λ h. let k : high x ≡ body x = simp t at h in let z : ◌≡◌ {A = ℕ} 0 1 = cc in omega arith;
      }

  step-byte : eqb b 42 ≡ false → body_byte b ≡ true → Stepped (body x) b
  step-byte t u =
      record {
        was = simp (t, u, ne_eqb b 36 (body-dollar b u)) (ap body (xor-back x b));
        byte = simp (t, u) (ap (λ (k : ℕ). bit_xor k x) (xor_comm x b) ∙ xor-back b x);
        moved = λ h. let k : body (bit_xor x b) ≡ body x = simp (t, u) at h in let z : bit_xor x b ≡ x = cc in let y =
            xor-fixed x b z in let w = body-low b u in omega arith;
      }

  body-alive : (t u : Bool) → eqb b 42 ≡ t → body_byte b ≡ u → (cond t (high x) (cond u (body (bit_xor x b)) dead) ≡ dead → ⊥)
      → Stepped (body x) b
  body-alive true u e f n = step-star e
  body-alive false true e f n = step-byte e f
  body-alive false false e f n = absurd (n refl)

pub stepped : (q : St) (b : ℕ) → (step q b ≡ dead → ⊥) → Stepped q b
stepped start b n =
    let t = alive (eqb b 36) (body 0) n in
    record {
      was = simp t;
      byte = sym (eqb-true b 36 t);
      moved = λ h. let k : body 0 ≡ start = simp t at h in let z : ◌≡◌ {A = ℕ} 0 1 = cc in omega arith;
    }
stepped (body x) b n = body-alive b x (eqb b 42) (body_byte b) refl refl n
stepped (high x) b n =
    let t = alive (eqb b (hex_of (x / 16))) (low (x % 16)) n in
    let e = eqb-true b (hex_of (x / 16)) t in
    let v : hex_value b ≡ x / 16 = ap hex_value e ∙ value_of (x / 16) in
    record {
      was = simp t (ap high (omega arith));
      byte = sym e;
      moved = λ h. let k : low (x % 16) ≡ high x = simp t at h in let z : ◌≡◌ {A = ℕ} 0 1 = cc in omega arith;
    }
stepped (low d) b n =
    let t = alive (eqb b (hex_of d)) cr n in
    let e = eqb-true b (hex_of d) t in
    record {
      was = simp t (ap low (ap hex_value e ∙ value_of d));
      byte = sym e;
      moved = λ h. let k : cr ≡ low d = simp t at h in let z : ◌≡◌ {A = ℕ} 0 1 = cc in omega arith;
    }
stepped cr b n =
    let t = alive (eqb b 13) lf n in
    record {
      was = simp t;
      byte = sym (eqb-true b 13 t);
      moved = λ h. let k : lf ≡ cr = simp t at h in let z : ◌≡◌ {A = ℕ} 0 1 = cc in omega arith;
    }
stepped lf b n =
    let t = alive (eqb b 10) start n in
    record {
      was = simp t;
      byte = sym (eqb-true b 10 t);
      moved = λ h. let k : start ≡ lf = simp t at h in let z : ◌≡◌ {A = ℕ} 0 1 = cc in omega arith;
    }
stepped dead b n = absurd (n refl)

-- the state after some bytes
abbrev pub walk : St → List ℕ → St
walk q [] = q
walk q (b ∷ s) = walk (step q b) s

pub walk-append : (q : St) (p s : List ℕ) → walk q (p ++ s) ≡ walk (walk q p) s
walk-append q [] s = refl
walk-append q (b ∷ p) s = walk-append (step q b) p s

walk-dead : (s : List ℕ) → walk dead s ≡ dead
walk-dead [] = refl
walk-dead (b ∷ s) = walk-dead s

pub start-dead : start ≡ dead → ⊥
start-dead e = let z : ◌≡◌ {A = ℕ} 0 1 = cc in omega arith

-- a state from which bytes lead to the start of a line is not past a fault
pub lives : (q : St) (s : List ℕ) → walk q s ≡ start → q ≡ dead → ⊥
lives q s e d = start-dead (sym e ∙ ap (λ (r : St). walk r s) d ∙ walk-dead s)

-- the bytes that lead to the start of a line give the state before them
pub unique : (q r : St) (s : List ℕ) → walk q s ≡ start → walk r s ≡ start → q ≡ r
unique q r [] e f = e ∙ sym f
unique q r (b ∷ s) e f =
    let ih = unique (step q b) (step r b) s e f in
    sym (stepped q b (lives _ s e)).was ∙ ap (back b) ih ∙ (stepped r b (lives _ s f)).was

walk-changed : (q : St) (p s : List ℕ) (x y : ℕ) → walk q (p ++ x ∷ s) ≡ start → walk q (p ++ y ∷ s) ≡ start → x ≡ y
walk-changed q p s x y e f =
    let e' = sym (walk-append q p (x ∷ s)) ∙ e in
    let f' = sym (walk-append q p (y ∷ s)) ∙ f in
    let w = walk q p in
    let u = unique (step w x) (step w y) s e' f' in
    sym (stepped w x (lives _ s e')).byte ∙ ap (between w) u ∙ (stepped w y (lives _ s f')).byte

walk-dropped : (q : St) (p s : List ℕ) (x : ℕ) → walk q (p ++ x ∷ s) ≡ start → walk q (p ++ s) ≡ start → ⊥
walk-dropped q p s x e f =
    let e' = sym (walk-append q p (x ∷ s)) ∙ e in
    let f' = sym (walk-append q p s) ∙ f in
    let w = walk q p in
    (stepped w x (lives _ s e')).moved (unique (step w x) w s e' f')

pub one-byte-walk : {l m : List ℕ} → OneByte l m → walk start l ≡ start → walk start m ≡ start → ⊥
one-byte-walk (changed p s x y n) e f = n (walk-changed start p s x y e f)
one-byte-walk (dropped p s x) e f = walk-dropped start p s x e f
one-byte-walk (added p s x) e f = walk-dropped start p s x f e

-- a line that passes leads from the start of a line to the start of the next
step-good : (x b : ℕ) → body_byte b ≡ true → step (body x) b ≡ body (bit_xor x b)
step-good x b e = rw (ne_eqb b 42 (body-star b e), e)

body-walk : (x : ℕ) (s t : List ℕ) → body_bytes s ≡ true → walk (body x) (s ++ t) ≡ walk (body (xor_from x s)) t
unfolding body_bytes xor_from
body-walk x [] t e = refl
body-walk x (b ∷ s) t e =
    ap (λ (q : St). walk q (s ++ t)) (step-good x b (and_left _ _ e)) ∙ body-walk (bit_xor x b) s t (and_right (body_byte b) _ e)

as-line-walk : (s : List ℕ) → body_bytes s ≡ true → walk start (as_line s) ≡ start
unfolding xor_of
as-line-walk s e =
    body-walk 0 s _ e ∙ rw (eq-eqb (hex_of (xor_from 0 s / 16)) _ refl, eq-eqb (hex_of (xor_from 0 s % 16)) _ refl)

pub line_walk : (l : List ℕ) → line_refusal l ≡ 0 → walk start l ≡ start
line_walk l e = let p = accepted l e in ap (walk start) p.1 ∙ as-line-walk (body_of l) p.0.good

-- Lines that each pass the line rule.
abbrev pub Lines : List (List ℕ) → Type 0
Lines [] = Unit {0}
Lines (l ∷ ls) = (line_refusal l ≡ 0) × Lines ls

pub lines-walk : (ls : List (List ℕ)) → Lines ls → walk start (joined ls) ≡ start
lines-walk [] h = refl
lines-walk (l ∷ ls) h = walk-append start l (joined ls) ∙ ap (λ (q : St). walk q (joined ls)) (line_walk l h.0) ∙ lines-walk ls h.1

-- Two lines that both pass never differ by one byte changed, dropped or added.
pub line-one-byte : {l m : List ℕ} → OneByte l m → line_refusal l ≡ 0 → line_refusal m ≡ 0 → ⊥
line-one-byte {l} {m} d e f = one-byte-walk d (line_walk l e) (line_walk m f)

run-walk : (g : List ℕ) → Lines (cut_lines g) → walk start g ≡ start
run-walk g h = ap (walk start) (sym (cut-joined g)) ∙ lines-walk (cut_lines g) h

-- Nor do two runs of lines that all pass, line ends included.
pub run-one-byte : {g h : List ℕ} → OneByte g h → Lines (cut_lines g) → Lines (cut_lines h) → ⊥
run-one-byte {g} {h} d e f = one-byte-walk d (run-walk g e) (run-walk h f)
