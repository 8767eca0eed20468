-- Angles from both sides: an angle is its value split into degrees, minutes and parts, each printed in its width. The three printed parts
-- and
-- the point are cut out of the field again at their places.
use Prim.Native.Nat.{◌%◌, ◌*◌, ◌+◌, ◌/◌, ◌<◌, ◌^◌, ◌≤◌, ℕ}
use mathlib.Core.Bool.{◌&&◌}
use mathlib.Core.List.{◌++◌, ◌∷◌, List}
use Rattle.std.specs.Prelude.{None, Option, Some}
use Rattle.digits.proofs.Options.{some-injective}
use mathlib.Core.Path.{◌∙◌, ◌≡◌, refl, sym}
use native.Mathlib.Omega.{arith}
use lib.Dec.{eqb, leb, ltb}
use lib.ListN.{drop, get_or, length, length-append, length-drop, take, take-append-drop}
use lib.Seq.{drop-append-add, drop_at, drop-cons, drop-drop, get_or-append-add, get_or_at, get_or-drop, take_at}
use borrow.Author.Tests.{eq-eqb, eqb-true, le-leb, leb-true, lt-ltb, ltb-true}
use Rattle.digits.specs.Decimal.{digits_of, print_fixed}
use Rattle.digits.proofs.Bools.{and_left, and_right}
use Rattle.digits.proofs.DecimalLaws.{fixed-rt, length-fixed}
use Rattle.digits.proofs.DigitSides.{fixed-are}
use Rattle.digits.proofs.Options.{nothing, through}
use Rattle.form_position.specs.Angle.{angle_of, angle_text, joined_of}

-- A field cut at its places.
cut : (w : ℕ) (f : List ℕ) → length f ≡ w + 7 → get_or f (w + 2) 0 ≡ 46 → f ≡ take w f ++ (take 2 (drop w f) ++ (46 ∷ drop (w + 3) f))
cut w f l p =
    let i : 2 < length (drop w f) = simp length-drop (omega arith) in
    let q : drop 2 (drop w f) ≡ 46 ∷ drop (w + 3) f =
    drop-cons (drop w f) 2 0 i ∙ rw (get_or-drop, p, drop-drop) in
    sym (rw (← q, take-append-drop, take-append-drop))

record Joined (limit : ℕ) (od om op : Option ℕ) (v : ℕ) : Type 0 where
  d : ℕ
  m : ℕ
  p : ℕ
  degrees : od ≡ Some d
  minutes : om ≡ Some m
  parts : op ≡ Some p
  below : m < 60
  value : d * 600000 + m * 10000 + p ≡ v
  most : v ≤ limit

joined_is : (limit : ℕ) (od om op : Option ℕ) (v : ℕ) → joined_of limit od om op ≡ Some v → Joined limit od om op v
unfolding joined_of
joined_is limit None om op v e = nothing v e
joined_is limit (Some d) None op v e = nothing v e
joined_is limit (Some d) (Some m) None v e = nothing v e
joined_is limit (Some d) (Some m) (Some p) v e =
    let t = through (ltb m 60 && leb (d * 600000 + m * 10000 + p) limit) (Some (d * 600000 + m * 10000 + p)) v e in
    let q : d * 600000 + m * 10000 + p ≡ v = some-injective (d * 600000 + m * 10000 + p) v t.1 in
    record {
      d = d;
      m = m;
      p = p;
      degrees = refl;
      minutes = refl;
      parts = refl;
      below = ltb-true m 60 (and_left _ _ t.0);
      value = q;
      most = rw q at (leb-true (d * 600000 + m * 10000 + p) limit (and_right (ltb m 60) _ t.0));
    }

-- The places of the point and of what stands behind it.
at-point : (a b c : List ℕ) (w : ℕ) → length a ≡ w → length b ≡ 2 → get_or (a ++ (b ++ (46 ∷ c))) (w + 2) 0 ≡ 46
at-point a b c w e f = rw (← e) (get_or-append-add a (b ++ (46 ∷ c)) 2 0 ∙ get_or_at b 46 c 0 2 f)

past-point : (a b c : List ℕ) (w : ℕ) → length a ≡ w → length b ≡ 2 → drop (w + 3) (a ++ (b ++ (46 ∷ c))) ≡ c
past-point a b c w e f =
    let g : drop 3 (b ++ (46 ∷ c)) ≡ c = sym (drop-drop 1 2 (b ++ (46 ∷ c))) ∙ rw (drop_at b (46 ∷ c) 2 f) in
    rw (← e) (drop-append-add a (b ++ (46 ∷ c)) 3 ∙ g)

-- The three parts of a value.
split : (w d m p v : ℕ) → m < 60 → p < 10000 → d * 600000 + m * 10000 + p ≡ v
    → print_fixed w d ++ (print_fixed 2 m ++ (46 ∷ print_fixed 4 p)) ≡ angle_text w v
split w d m p v h i e =
    let a : v / 600000 ≡ d = omega arith in
    let b : v / 10000 % 60 ≡ m = omega arith in
    let c : v % 10000 ≡ p = omega arith in
    rw (a, b, c)

room : (k d m p v : ℕ) → d < k → m < 60 → p < 10000 → d * 600000 + m * 10000 + p ≡ v → v < k * 600000
room k d m p v g h i e = omega arith

same_parts : {a b c x y z : List ℕ} → a ≡ x → b ≡ y → c ≡ z → a ++ (b ++ (46 ∷ c)) ≡ x ++ (y ++ (46 ∷ z))
same_parts e f g = rw (e, f, g)

-- What reads is the value in degrees and minutes, at most the limit.
pub angle-is : (w limit : ℕ) (f : List ℕ) (v : ℕ) → angle_of w limit f ≡ Some v → (f ≡ angle_text w v) × (v ≤ limit) × (v < 10 ^ w * 600000)
unfolding angle_of
angle-is w limit f v e =
    let t = through (eqb (length f) (w + 7) && eqb (get_or f (w + 2) 0) 46)
    (joined_of limit (digits_of w w (take w f)) (digits_of 2 2 (take 2 (drop w f))) (digits_of 4 4 (drop (w + 3) f))) v e in
    let j = joined_is limit (digits_of w w (take w f)) (digits_of 2 2 (take 2 (drop w f))) (digits_of 4 4 (drop (w + 3) f)) v t.1 in
    let c = cut w f (eqb-true (length f) (w + 7) (and_left _ _ t.0))
    (eqb-true (get_or f (w + 2) 0) 46 (and_right (eqb (length f) (w + 7)) _ t.0)) in
    let a = fixed-are w (take w f) j.d j.degrees in
    let b = fixed-are 2 (take 2 (drop w f)) j.m j.minutes in
    let k = fixed-are 4 (drop (w + 3) f) j.p j.parts in
    let s : print_fixed w j.d ++ (print_fixed 2 j.m ++ (46 ∷ print_fixed 4 j.p)) ≡ angle_text w v =
    split w j.d j.m j.p v j.below k.1 j.value in
    (c ∙ same_parts a.0 b.0 k.0 ∙ s, j.most, room (10 ^ w) j.d j.m j.p v a.1 j.below k.1 j.value)

-- And each value that is within the limit, and whose degrees fit, reads.
pub angle-reads : (w limit v : ℕ) → w ≤ 9 → v ≤ limit → v < 10 ^ w * 600000 → angle_of w limit (angle_text w v) ≡ Some v
unfolding angle_of joined_of
angle-reads w limit v h i k =
    let a = print_fixed w (v / 600000) in
    let b = print_fixed 2 (v / 10000 % 60) in
    let c = print_fixed 4 (v % 10000) in
    let l : length (a ++ (b ++ (46 ∷ c))) ≡ w + 7 = simp (length-append, length-fixed) (omega arith) in
    let g : get_or (a ++ (b ++ (46 ∷ c))) (w + 2) 0 ≡ 46 = at-point a b c w (length-fixed w (v / 600000)) (length-fixed 2 (v / 10000 % 60)) in
    let d : drop w (a ++ (b ++ (46 ∷ c))) ≡ b ++ (46 ∷ c) = drop_at a (b ++ (46 ∷ c)) w (length-fixed w (v / 600000)) in
    let r : drop (w + 3) (a ++ (b ++ (46 ∷ c))) ≡ c = past-point a b c w (length-fixed w (v / 600000)) (length-fixed 2 (v / 10000 % 60)) in
    let s : v / 600000 * 600000 + v / 10000 % 60 * 10000 + v % 10000 ≡ v = omega arith in
    rw (eq-eqb _ _ l, eq-eqb _ _ g, take_at a (b ++ (46 ∷ c)) w (length-fixed w (v / 600000)), d)
    (rw (take_at b (46 ∷ c) 2 (length-fixed 2 (v / 10000 % 60)), r, fixed-rt w (v / 600000) h (omega arith))
    (rw (fixed-rt 2 (v / 10000 % 60) (omega arith) (omega arith), fixed-rt 4 (v % 10000) (omega arith) (omega arith))
    (rw (lt-ltb (v / 10000 % 60) 60 (omega arith), s, le-leb v limit i))))
