-- Positions and variations from both sides: four fields that are good are two angles with their letters, or all empty.
use Prim.Native.Nat.{◌*◌, ◌+◌, ◌<◌, ◌^◌, ◌≤◌, ℕ}
use mathlib.Core.Bool.{◌&&◌, ◌||◌, Bool, false, not, true}
use mathlib.Core.List.{[], ◌∷◌, List}
use mathlib.Core.Logic.{◌⊎◌, inl, inr}
use Rattle.std.specs.Prelude.{None, Option, Some}
use mathlib.Core.Path.{◌∙◌, ◌≡◌, ap, refl, subst, sym}
use native.Mathlib.Omega.{arith}
use lib.Dec.{eqb, lit<, lit≤}
use lib.IntN.{pos, ℤ}
use lib.ListN.{length, length-append}
use borrow.Author.Tests.{eqb-false, eqb-true, ne_eqb}
use Rattle.digits.specs.Ascii.{ascii}
use Rattle.digits.specs.Pick.{pick}
use Rattle.digits.specs.Same.{same}
use Rattle.digits.specs.Sign.{signed}
use Rattle.digits.proofs.Bools.{true-false}
use Rattle.digits.proofs.DecimalLaws.{length-fixed}
use Rattle.digits.proofs.Sameness.{same_refl, same_true}
use Rattle.form.specs.Got.{got_int_of, missing_int}
use Rattle.form.specs.declared.got.GotInt.{GotInt}
use Rattle.form_number.specs.Number.{below_of}
use Rattle.form_number.proofs.NumberSides.{below-is, below-reads, not-empty, Written}
use Rattle.form_position.specs.Angle.{angle_of, angle_text, both_of, latitude_of, lettered_of, longitude_of, position_form, refused_at}
use Rattle.form_position.specs.Angle.{sided_of, variation_form, wrong_int}
use Rattle.form_position.specs.declared.Position.{Position}
use Rattle.form_position.proofs.AngleSides.{angle-is, angle-reads}

-- A value with the first of its two letters, or negated with the second.
pub data Lettered (plus minus : List ℕ) (v : ℕ) : List ℕ → ℤ → Type 0 where
  first : Lettered plus minus v plus (signed false v)
  second : Lettered plus minus v minus (signed true v)

-- What both halves say of a position that is good.
pub record Both (a o : GotInt) (p : Position) : Type 0 where
  pub left : a.wrong ≡ 0
  pub right : o.wrong ≡ 0
  pub alike : a.there ≡ o.there
  pub whole : p ≡ record { wrong = 0; there = a.there; lat = a.value; lon = o.value }

alike-there : (a o : Bool) (t : Bool) → ((a && not o) || ((not a && o) || t)) ≡ false → a ≡ o
alike-there true true t e = refl
alike-there true false t e = e
alike-there false true t e = sym e
alike-there false false t e = refl

both_is : (a o : GotInt) → (both_of a o).wrong ≡ 0 → Both a o (both_of a o)
unfolding both_of
both_is a o e = go (eqb a.wrong 0) refl e
  where
    whole : Position
    whole = record { wrong = 0; there = a.there; lat = a.value; lon = o.value }

    last : (t : Bool) → a.wrong ≡ 0 → a.there ≡ o.there → eqb o.wrong 0 ≡ t → (pick t whole (refused_at 4)).wrong ≡ 0
        → Both a o (pick t whole (refused_at 4))
    last true l h d q = record { left = l; right = eqb-true o.wrong 0 d; alike = h; whole = refl }
    last false l h d q = let z : ⊥ = omega arith in absurd z

    middle : (t : Bool) → a.wrong ≡ 0 → ((a.there && not o.there) || ((not a.there && o.there) || eqb o.wrong 1)) ≡ t
        → (pick t (refused_at 3) (pick (eqb o.wrong 0) whole (refused_at 4))).wrong ≡ 0
        → Both a o (pick t (refused_at 3) (pick (eqb o.wrong 0) whole (refused_at 4)))
    middle true l d q = let z : ⊥ = omega arith in absurd z
    middle false l d q = last (eqb o.wrong 0) l (alike-there a.there o.there (eqb o.wrong 1) d) refl q

    go : (t : Bool) → eqb a.wrong 0 ≡ t
        → (pick t (pick ((a.there && not o.there) || ((not a.there && o.there) || eqb o.wrong 1)) (refused_at 3)
        (pick (eqb o.wrong 0) whole (refused_at 4))) (refused_at a.wrong)).wrong ≡ 0
        → Both a o (pick t (pick ((a.there && not o.there) || ((not a.there && o.there) || eqb o.wrong 1)) (refused_at 3)
        (pick (eqb o.wrong 0) whole (refused_at 4))) (refused_at a.wrong))
    go true d q = middle _ (eqb-true a.wrong 0 d) refl q
    go false d q = absurd (eqb-false a.wrong 0 d q)

-- A value that is there and not wrong was read, and has one of its letters.
record Value (plus minus u : List ℕ) (o : Option ℕ) (z : ℤ) : Type 0 where
  v : ℕ
  read : o ≡ Some v
  letter : Lettered plus minus v u z

lettered-is : (plus minus u : List ℕ) (o : Option ℕ) → (lettered_of plus minus u o).wrong ≡ 0
    → Value plus minus u o (lettered_of plus minus u o).value
unfolding lettered_of
lettered-is plus minus u None e = let z : ⊥ = omega arith in absurd z
lettered-is plus minus u (Some v) e = go (same u plus) (same u minus) refl refl e
  where
    go : (s t : Bool) → same u plus ≡ s → same u minus ≡ t → (pick (s || t) (got_int_of (Some (signed t v))) (wrong_int 2 true)).wrong ≡ 0
        → Value plus minus u (Some v) (pick (s || t) (got_int_of (Some (signed t v))) (wrong_int 2 true)).value
    go true true p q k = record { v = v; read = refl; letter = rw (same_true u minus q) second }
    go false true p q k = record { v = v; read = refl; letter = rw (same_true u minus q) second }
    go true false p q k = record { v = v; read = refl; letter = rw (same_true u plus p) first }
    go false false p q k = let z : ⊥ = omega arith in absurd z

letter-reads : (plus minus u : List ℕ) (v : ℕ) (z : ℤ) → same plus minus ≡ false → Lettered plus minus v u z
    → lettered_of plus minus u (Some v) ≡ got_int_of (Some z)
unfolding lettered_of
letter-reads plus minus _ v _ n first = rw (same_refl plus, n)
letter-reads plus minus _ v _ n second = rw (same_refl minus) (other (same minus plus))
  where
    other : (t : Bool) → pick (t || true) (got_int_of (Some (signed true v))) (wrong_int 2 true) ≡ got_int_of (Some (signed true v))
    other true = refl
    other false = refl

empty : (f : List ℕ) → eqb (length f) 0 ≡ true → f ≡ []
empty [] e = refl
empty (b ∷ f) e = let z : ⊥ = omega (arith, eqb-true (length (b ∷ f)) 0 e) in absurd z

-- A value with its letter is marked as there, also where it is wrong.
there-is : (plus minus u : List ℕ) (o : Option ℕ) → (lettered_of plus minus u o).there ≡ false → ⊥
unfolding lettered_of
there-is plus minus u None q = true-false refl q
there-is plus minus u (Some v) q = which (same u plus || same u minus) q
  where
    which : (t : Bool) → (pick t (got_int_of (Some (signed (same u minus) v))) (wrong_int 2 true)).there ≡ false → ⊥
    which true r = true-false refl r
    which false r = true-false refl r

-- A half of a position.
module _ (plus minus f u : List ℕ) (o : Option ℕ) where
  -- It is there: read, with one of its letters.
  half_is : (sided_of plus minus f u o).wrong ≡ 0 → (sided_of plus minus f u o).there ≡ true
      → Value plus minus u o (sided_of plus minus f u o).value
  unfolding sided_of
  half_is e h = go (eqb (length f) 0) (eqb (length u) 0) e h
    where
      go : (s t : Bool) → (pick s (pick t missing_int (wrong_int 2 false)) (lettered_of plus minus u o)).wrong ≡ 0
          → (pick s (pick t missing_int (wrong_int 2 false)) (lettered_of plus minus u o)).there ≡ true
          → Value plus minus u o (pick s (pick t missing_int (wrong_int 2 false)) (lettered_of plus minus u o)).value
      go true true p q = absurd (true-false q refl)
      go true false p q = absurd (true-false q refl)
      go false t p q = lettered-is plus minus u o p

  -- It is not there: both fields are empty.
  half-none : (sided_of plus minus f u o).wrong ≡ 0 → (sided_of plus minus f u o).there ≡ false → (f ≡ []) × (u ≡ [])
  unfolding sided_of
  half-none e h = go (eqb (length f) 0) (eqb (length u) 0) refl refl e h
    where
      go : (s t : Bool) → eqb (length f) 0 ≡ s → eqb (length u) 0 ≡ t
          → (pick s (pick t missing_int (wrong_int 2 false)) (lettered_of plus minus u o)).wrong ≡ 0
          → (pick s (pick t missing_int (wrong_int 2 false)) (lettered_of plus minus u o)).there ≡ false → (f ≡ []) × (u ≡ [])
      go true true a b p q = (empty f a, empty u b)
      go true false a b p q = let z : ⊥ = omega arith in absurd z
      go false t a b p q = absurd (there-is plus minus u o q)

-- An angle with its letter, as a value with a sign.
pub data Placed (plus minus : List ℕ) (w limit : ℕ) : List ℕ → List ℕ → ℤ → Type 0 where
  placed : {v : ℕ} {u : List ℕ} {z : ℤ} → v ≤ limit → Lettered plus minus v u z → Placed plus minus w limit (angle_text w v) u z

half-placed : (plus minus : List ℕ) (w limit : ℕ) (f u : List ℕ) → (sided_of plus minus f u (angle_of w limit f)).wrong ≡ 0
    → (sided_of plus minus f u (angle_of w limit f)).there ≡ true
    → Placed plus minus w limit f u (sided_of plus minus f u (angle_of w limit f)).value
half-placed plus minus w limit f u e h =
    let r = half_is plus minus f u (angle_of w limit f) e h in
    let a = angle-is w limit f r.v r.read in
    subst (λ (l : List ℕ). Placed plus minus w limit l u (sided_of plus minus f u (angle_of w limit f)).value) (sym a.0)
    (placed a.1 r.letter)

text-length : (w v : ℕ) → length (angle_text w v) ≡ w + 7
text-length w v = simp (length-append, length-fixed) (omega arith)

half-reads : (plus minus : List ℕ) (w limit : ℕ) {f u : List ℕ} {z : ℤ} → w ≤ 9 → limit < 10 ^ w * 600000 → same plus minus ≡ false
    → Placed plus minus w limit f u z → sided_of plus minus f u (angle_of w limit f) ≡ got_int_of (Some z)
unfolding sided_of
half-reads plus minus w limit {f} {u} {z} h k n (placed {v} i l) =
    let m : (length (angle_text w v) ≡ 0 → ⊥) = λ e. omega (arith, text-length w v) in
    rw (ne_eqb (length (angle_text w v)) 0 m, angle-reads w limit v h i (omega arith)) (letter-reads plus minus u v z n l)

-- The fields of a latitude and of a longitude.
abbrev pub Latitude : List ℕ → List ℕ → ℤ → Type 0
Latitude = Placed (ascii "N") (ascii "S") 2 54000000

abbrev pub Longitude : List ℕ → List ℕ → ℤ → Type 0
Longitude = Placed (ascii "E") (ascii "W") 3 108000000

module _ (lat ns lon ew : List ℕ) where
  north : GotInt
  north = sided_of (ascii "N") (ascii "S") lat ns (angle_of 2 54000000 lat)

  east : GotInt
  east = sided_of (ascii "E") (ascii "W") lon ew (angle_of 3 108000000 lon)

  halves : (position_form lat ns lon ew).wrong ≡ 0 → Both north east (position_form lat ns lon ew)
  unfolding position_form latitude_of longitude_of north east
  halves e = both_is north east e

  -- A position that is there is a latitude and a longitude, each with its letter.
  pub position-is : (position_form lat ns lon ew).wrong ≡ 0 → (position_form lat ns lon ew).there ≡ true
      → Latitude lat ns (position_form lat ns lon ew).lat × Longitude lon ew (position_form lat ns lon ew).lon
  unfolding north east
  position-is e h =
      let b = halves e in
      let t : north.there ≡ true = sym (ap (λ (p : Position). p.there) b.whole) ∙ h in (
        subst (λ (z : ℤ). Latitude lat ns z) (sym (ap (λ (p : Position). p.lat) b.whole))
            (half-placed (ascii "N") (ascii "S") 2 54000000 lat ns b.left t),
        subst (λ (z : ℤ). Longitude lon ew z) (sym (ap (λ (p : Position). p.lon) b.whole))
            (half-placed (ascii "E") (ascii "W") 3 108000000 lon ew b.right (sym b.alike ∙ t)),
      )

  -- A position that is good and not there is four empty fields.
  pub position-none : (position_form lat ns lon ew).wrong ≡ 0 → (position_form lat ns lon ew).there ≡ false
      → (lat ≡ []) × (ns ≡ []) × (lon ≡ []) × (ew ≡ [])
  unfolding north east
  position-none e h =
      let b = halves e in
      let t : north.there ≡ false = sym (ap (λ (p : Position). p.there) b.whole) ∙ h in
      let l = half-none (ascii "N") (ascii "S") lat ns (angle_of 2 54000000 lat) b.left t in
      let r = half-none (ascii "E") (ascii "W") lon ew (angle_of 3 108000000 lon) b.right (sym b.alike ∙ t) in
      (l.0, l.1, r.0, r.1)

-- And each latitude and longitude reads.
pub position-reads : {lat ns lon ew : List ℕ} {a o : ℤ} → Latitude lat ns a → Longitude lon ew o
    → position_form lat ns lon ew ≡ record { wrong = 0; there = true; lat = a; lon = o }
unfolding position_form latitude_of longitude_of both_of same
position-reads {lat} {ns} {lon} {ew} {a} {o} p q =
    rw (
      half-reads (ascii "N") (ascii "S") 2 54000000 (lit≤ tt) (lit< tt) refl p,
      half-reads (ascii "E") (ascii "W") 3 108000000 (lit≤ tt) (lit< tt) refl q,
    )

-- And four empty fields are a missing position.
pub position-empty : position_form [] [] [] [] ≡ record { wrong = 0; there = false; lat = pos 0; lon = pos 0 }
unfolding position_form latitude_of longitude_of sided_of both_of
position-empty = refl

-- A number below 180 degrees and its letter.
pub data Varied : List ℕ → List ℕ → ℤ → Type 0 where
  varied : {f u : List ℕ} {v : ℕ} {z : ℤ} → Written f v → v < 180000 → Lettered (ascii "E") (ascii "W") v u z → Varied f u z

module _ (f u : List ℕ) where
  abbrev Loose : Bool
  Loose = eqb (length u) 0 || (same u (ascii "E") || same u (ascii "W"))

  -- A variation that is good and there is such a pair of fields.
  pub variation-is : (variation_form f u).wrong ≡ 0 → (variation_form f u).there ≡ true → Varied f u (variation_form f u).value
  unfolding variation_form
  variation-is e h = go (eqb (length f) 0) Loose e h
    where
      go : (s t : Bool) → (pick s (pick t missing_int (wrong_int 2 false))
          (lettered_of (ascii "E") (ascii "W") u (below_of 180000 f))).wrong ≡ 0
          → (pick s (pick t missing_int (wrong_int 2 false)) (lettered_of (ascii "E") (ascii "W") u (below_of 180000 f))).there ≡ true
          → Varied f u (pick s (pick t missing_int (wrong_int 2 false)) (lettered_of (ascii "E") (ascii "W") u (below_of 180000 f))).value
      go true true p q = absurd (true-false q refl)
      go true false p q = absurd (true-false q refl)
      go false t p q =
          let r = lettered-is (ascii "E") (ascii "W") u (below_of 180000 f) p in
          let w = below-is 180000 f r.v r.read in
          varied w.0 w.1 r.letter

  -- A variation that is good and not there is an empty field, and another or a letter.
  pub variation-none : (variation_form f u).wrong ≡ 0 → (variation_form f u).there ≡ false → (f ≡ [])
      × ((u ≡ []) ⊎ ((u ≡ ascii "E") ⊎ (u ≡ ascii "W")))
  unfolding variation_form
  variation-none e h = go (eqb (length f) 0) (eqb (length u) 0) (same u (ascii "E")) (same u (ascii "W")) refl refl refl refl e h
    where
      go : (s t x y : Bool) → eqb (length f) 0 ≡ s → eqb (length u) 0 ≡ t → same u (ascii "E") ≡ x → same u (ascii "W") ≡ y
          → (pick s (pick (t || (x || y)) missing_int (wrong_int 2 false))
          (lettered_of (ascii "E") (ascii "W") u (below_of 180000 f))).wrong ≡ 0
          → (pick s (pick (t || (x || y)) missing_int (wrong_int 2 false))
          (lettered_of (ascii "E") (ascii "W") u (below_of 180000 f))).there ≡ false
          → (f ≡ []) × ((u ≡ []) ⊎ ((u ≡ ascii "E") ⊎ (u ≡ ascii "W")))
      go true true x y a b c d p q = (empty f a, inl (empty u b))
      go true false true y a b c d p q = (empty f a, inr (inl (same_true u (ascii "E") c)))
      go true false false true a b c d p q = (empty f a, inr (inr (same_true u (ascii "W") d)))
      go true false false false a b c d p q = let z : ⊥ = omega arith in absurd z
      go false t x y a b c d p q = absurd (there-is (ascii "E") (ascii "W") u (below_of 180000 f) q)

-- And each such pair of fields reads.
pub variation-reads : {f u : List ℕ} {z : ℤ} → Varied f u z → variation_form f u ≡ got_int_of (Some z)
unfolding variation_form same
variation-reads {f} {u} {z} (varied {v = v} w h l) =
    rw (ne_eqb (length f) 0 (not-empty w), below-reads 180000 w h) (letter-reads (ascii "E") (ascii "W") u v z refl l)

-- And each of the three is a missing variation.
pub variation-empty : (variation_form [] [] ≡ missing_int) × (variation_form [] (ascii "E") ≡ missing_int)
    × (variation_form [] (ascii "W") ≡ missing_int)
unfolding variation_form same
variation-empty = (refl, refl, refl)
