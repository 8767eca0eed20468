-- The place of a 5 in a position: which of its four fields is named, why nothing after it mends it, and how those before it are completed:
-- an empty latitude by empty fields, a latitude by N, 00000.0000 and E.
use Prim.Native.Nat.{◌<◌, ◌≤◌, suc, zero, ℕ}
use mathlib.Core.Bool.{◌&&◌, ◌||◌, Bool, false, not, true, true≢false}
use mathlib.Core.List.{[], ◌∷◌, List}
use Rattle.std.specs.Prelude.{Option}
use mathlib.Core.Path.{◌∙◌, ◌≡◌, ap, refl, sym}
use native.Mathlib.Omega.{arith}
use lib.Dec.{eqb, lit<, lit≤}
use borrow.Author.Tests.{eqb-true, ne_eqb}
use Rattle.digits.specs.Ascii.{ascii}
use Rattle.digits.specs.Decimal.{print_fixed}
use Rattle.digits.specs.Pick.{pick}
use Rattle.digits.proofs.Bools.{and_left}
use Rattle.digits.proofs.Sameness.{same_refl}
use Rattle.form.specs.declared.got.GotInt.{GotInt}
use Rattle.form.proofs.Clean.{Clean}
use Rattle.form.proofs.PlaceLaws.{Agree, Completed, named, PrefixForm}
use Rattle.form.proofs.PlaceSeveral.{empty, prefix-several, put-from, unread}
use Rattle.form.proofs.PlaceTwo.{Sided}
use Rattle.form_position.specs.Angle.{angle_text, both_of, latitude_of, longitude_most, longitude_of, position_form, refused_at, sided_of}
use Rattle.form_position.specs.Forms.{place}
use Rattle.form_position.specs.declared.Position.{Position}
use Rattle.form_position.proofs.AngleSides.{angle-reads}
use Rattle.form_position.proofs.PlaceSides.{sided-good, sided-is}
use Rattle.form_position.proofs.PositionSides.{position-empty}
use Rattle.form_position.proofs.Texts.{clean-angle}

-- A half, by its value and its letter.
module _ (plus minus f : List ℕ) (o : Option ℕ) where
  half_is : (u : List ℕ) → Sided (sided_of plus minus f u o) (not (empty f)) (unread (empty f) o)
  unfolding sided_of
  half_is u = sided-is plus minus u (empty f) (empty u) o

  -- The letter that completes it.
  abbrev letter_for : List ℕ
  letter_for = pick (empty f) [] plus

  half-good : unread (empty f) o ≡ false → (sided_of plus minus f letter_for o).wrong ≡ 0
  unfolding sided_of
  half-good h = sided-good plus minus letter_for (empty f) (empty letter_for) o h (λ e. rw e) (λ e. rw e (same_refl plus))

  clean-letter : Clean plus → Clean letter_for
  clean-letter c = go (empty f)
    where
      go : (t : Bool) → Clean (pick t [] plus)
      go true = tt
      go false = c

-- One is there without the other, or the second's value is wrong.
abbrev unlike : Bool → Bool → Bool → Bool
unlike p q r = (p && not q) || ((not p && q) || r)

-- Both halves: where the wrong field is.
module _ (x y : GotInt) (two : x.wrong ≤ 2) where
  abbrev apart : Bool
  apart = unlike x.there y.there (eqb y.wrong 1)

  abbrev joined : Bool → Bool → Bool → Position
  joined a b c =
      pick a (pick b (refused_at 3) (pick c (record { wrong = 0; there = x.there; lat = x.value; lon = y.value }) (refused_at 4)))
      (refused_at x.wrong)

  both-low : (k : ℕ) → eqb 0 k ≡ false → eqb 3 k ≡ false → eqb 4 k ≡ false → eqb (both_of x y).wrong k ≡ eqb x.wrong k
  unfolding both_of
  both-low k p q r = go (eqb x.wrong 0) apart (eqb y.wrong 0) refl
    where
      go : (a b c : Bool) → eqb x.wrong 0 ≡ a → eqb (joined a b c).wrong k ≡ eqb x.wrong k
      go false b c e = refl
      go true true c e = q ∙ sym (rw (eqb-true x.wrong 0 e) p)
      go true false true e = p ∙ sym (rw (eqb-true x.wrong 0 e) p)
      go true false false e = r ∙ sym (rw (eqb-true x.wrong 0 e) p)

  both-third : eqb (both_of x y).wrong 3 ≡ (eqb x.wrong 0 && apart)
  unfolding both_of
  both-third = go (eqb x.wrong 0) apart (eqb y.wrong 0)
    where
      go : (a b c : Bool) → eqb (joined a b c).wrong 3 ≡ (a && b)
      go false b c = ne_eqb x.wrong 3 (λ e. omega (arith, two))
      go true true c = refl
      go true false true = refl
      go true false false = refl

  both-fourth : (both_of x y).wrong ≡ 4 → (x.wrong ≡ 0) × (apart ≡ false)
  unfolding both_of
  both-fourth = go (eqb x.wrong 0) apart (eqb y.wrong 0) refl
    where
      go : (a b c : Bool) → eqb x.wrong 0 ≡ a → (joined a b c).wrong ≡ 4 → (x.wrong ≡ 0) × (b ≡ false)
      go false b c e q = let z : ⊥ = omega (arith, two) in absurd z
      go true true c e q = let z : ⊥ = omega arith in absurd z
      go true false c e q = (eqb-true x.wrong 0 e, refl)

  both_most : (both_of x y).wrong ≤ 4
  unfolding both_of
  both_most = go (eqb x.wrong 0) apart (eqb y.wrong 0)
    where
      go : (a b c : Bool) → (joined a b c).wrong ≤ 4
      go false b c = omega (arith, two)
      go true true c = lit≤ tt
      go true false true = lit≤ tt
      go true false false = lit≤ tt

-- Two halves that are good, both there or both not.
both-good : (x y : GotInt) → x.wrong ≡ 0 → y.wrong ≡ 0 → x.there ≡ y.there → (both_of x y).wrong ≡ 0
unfolding both_of
both-good x y e i h = rw (e, i, h) (go y.there)
  where
    go : (t : Bool) → (pick (unlike t t false) (refused_at 3) (record { wrong = 0; there = t; lat = x.value; lon = y.value })).wrong ≡ 0
    go true = refl
    go false = refl

-- The fields of a position, as two halves.
abbrev north : List ℕ → List ℕ → GotInt
north lat ns = sided_of (ascii "N") (ascii "S") lat ns (latitude_of lat)

abbrev east : List ℕ → List ℕ → GotInt
east lon ew = sided_of (ascii "E") (ascii "W") lon ew (longitude_of lon)

north-is : (lat ns : List ℕ) → Sided (north lat ns) (not (empty lat)) (unread (empty lat) (latitude_of lat))
north-is lat ns = half_is (ascii "N") (ascii "S") lat (latitude_of lat) ns

east-is : (lon ew : List ℕ) → Sided (east lon ew) (not (empty lon)) (unread (empty lon) (longitude_of lon))
east-is lon ew = half_is (ascii "E") (ascii "W") lon (longitude_of lon) ew

-- Whether the third is wrong, by the first three.
abbrev third : List ℕ → List ℕ → List ℕ → Bool
third lat ns lon = eqb (north lat ns).wrong 0 && unlike (north lat ns).there (not (empty lon)) (unread (empty lon) (longitude_of lon))

module _ (lat ns lon ew : List ℕ) where
  first-is : eqb (position_form lat ns lon ew).wrong 1 ≡ unread (empty lat) (latitude_of lat)
  unfolding position_form
  first-is = both-low (north lat ns) (east lon ew) (north-is lat ns).most 1 refl refl refl ∙ (north-is lat ns).is-bad

  second_is : eqb (position_form lat ns lon ew).wrong 2 ≡ eqb (north lat ns).wrong 2
  unfolding position_form
  second_is = both-low (north lat ns) (east lon ew) (north-is lat ns).most 2 refl refl refl

  third-is : eqb (position_form lat ns lon ew).wrong 3 ≡ third lat ns lon
  unfolding position_form
  third-is = both-third (north lat ns) (east lon ew) (north-is lat ns).most ∙ rw ((east-is lon ew).is-there, (east-is lon ew).is-bad)

  fourth-is : (position_form lat ns lon ew).wrong ≡ 4
      → ((north lat ns).wrong ≡ 0) × (unlike (north lat ns).there (east lon ew).there (eqb (east lon ew).wrong 1) ≡ false)
  unfolding position_form
  fourth-is = both-fourth (north lat ns) (east lon ew) (north-is lat ns).most

  position-most : (position_form lat ns lon ew).wrong ≤ 4
  unfolding position_form
  position-most = both_most (north lat ns) (east lon ew) (north-is lat ns).most

  position-good : (north lat ns).wrong ≡ 0 → (east lon ew).wrong ≡ 0 → (north lat ns).there ≡ (east lon ew).there
      → (position_form lat ns lon ew).wrong ≡ 0
  unfolding position_form
  position-good = both-good (north lat ns) (east lon ew)

-- A longitude for a latitude: zero, or none.
abbrev zero_text : List ℕ
zero_text = angle_text 3 0

zero-there : empty zero_text ≡ false
unfolding print_fixed
zero-there = refl

module _ (lat : List ℕ) where
  abbrev lon_for : List ℕ
  lon_for = pick (empty lat) [] zero_text

  lon-read : unread (empty lon_for) (longitude_of lon_for) ≡ false
  unfolding longitude_of
  lon-read = go (empty lat)
    where
      go : (t : Bool) → unread (empty (pick t [] zero_text)) (longitude_of (pick t [] zero_text)) ≡ false
      go true = refl
      go false = rw (zero-there, angle-reads 3 longitude_most 0 (lit≤ tt) (lit≤ tt) (lit< tt))

  lon-like : empty lon_for ≡ empty lat
  lon-like = go (empty lat)
    where
      go : (t : Bool) → empty (pick t [] zero_text) ≡ t
      go true = refl
      go false = zero-there

  clean-lon : Clean lon_for
  clean-lon = go (empty lat)
    where
      go : (t : Bool) → Clean (pick t [] zero_text)
      go true = tt
      go false = clean-angle 3 0

-- The letters that complete a half.
abbrev ns_for : List ℕ → List ℕ
ns_for lat = pick (empty lat) [] (ascii "N")

abbrev ew_for : List ℕ → List ℕ
ew_for lon = pick (empty lon) [] (ascii "E")

north-good : (lat : List ℕ) → unread (empty lat) (latitude_of lat) ≡ false → (north lat (ns_for lat)).wrong ≡ 0
north-good lat = half-good (ascii "N") (ascii "S") lat (latitude_of lat)

east-good : (lon : List ℕ) → unread (empty lon) (longitude_of lon) ≡ false → (east lon (ew_for lon)).wrong ≡ 0
east-good lon = half-good (ascii "E") (ascii "W") lon (longitude_of lon)

clean-ns : (lat : List ℕ) → Clean (ns_for lat)
clean-ns lat = clean-letter (ascii "N") (ascii "S") lat (latitude_of lat) ((lit< tt, lit< tt), tt)

clean-ew : (lon : List ℕ) → Clean (ew_for lon)
clean-ew lon = clean-letter (ascii "E") (ascii "W") lon (longitude_of lon) ((lit< tt, lit< tt), tt)

-- A longitude and its letter complete a latitude with its letter; a letter completes a longitude that is like its latitude.
third-good : (lat ns : List ℕ) → (north lat ns).wrong ≡ 0 → (position_form lat ns (lon_for lat) (ew_for (lon_for lat))).wrong ≡ 0
third-good lat ns h =
    let lon = lon_for lat in
    position-good lat ns lon (ew_for lon) h (east-good lon (lon-read lat))
    ((north-is lat ns).is-there ∙ ap not (sym (lon-like lat)) ∙ sym (east-is lon (ew_for lon)).is-there)

alike : (p q r : Bool) → unlike p q r ≡ false → (p ≡ q) × (r ≡ false)
alike true true r e = (refl, e)
alike false false r e = (refl, e)
alike true false r e = absurd (true≢false e)
alike false true r e = absurd (true≢false e)

fourth-good : (lat ns lon ew : List ℕ) → (position_form lat ns lon ew).wrong ≡ 4 → (position_form lat ns lon (ew_for lon)).wrong ≡ 0
fourth-good lat ns lon ew e =
    let f = fourth-is lat ns lon ew e in
    let a = alike (north lat ns).there (east lon ew).there (eqb (east lon ew).wrong 1) f.1 in
    let b = east-is lon ew in
    position-good lat ns lon (ew_for lon) f.0 (east-good lon (sym b.is-bad ∙ a.1))
    (a.0 ∙ b.is-there ∙ sym (east-is lon (ew_for lon)).is-there)

place-own : (field other : ℕ → List ℕ) → Agree field other suc 4 → place.got other ≡ place.got field
place-own field other s = rw (s 0 (lit< tt), s 1 (lit< tt), s 2 (lit< tt), s 3 (lit< tt))

place-decided : (field other : ℕ → List ℕ) (k : ℕ) → 0 < k → k < 4 → Agree field other suc k
    → eqb (named place other) k ≡ eqb (named place field) k
place-decided field other zero h i s = let z : ⊥ = omega arith in absurd z
place-decided field other (suc zero) h i s =
    first-is (other 1) (other 2) (other 3) (other 4)
    ∙ ap (λ (f : List ℕ). unread (empty f) (latitude_of f)) (s 0 h)
    ∙ sym (first-is (field 1) (field 2) (field 3) (field 4))
place-decided field other (suc (suc zero)) h i s =
    let e : north (other 1) (other 2) ≡ north (field 1) (field 2) = rw (s 0 h, s 1 (lit< tt)) in
    second_is (other 1) (other 2) (other 3) (other 4)
    ∙ ap (λ (g : GotInt). eqb g.wrong 2) e
    ∙ sym (second_is (field 1) (field 2) (field 3) (field 4))
place-decided field other (suc (suc (suc zero))) h i s =
    let e : third (other 1) (other 2) (other 3) ≡ third (field 1) (field 2) (field 3) = rw (s 0 h, s 1 (lit< tt), s 2 (lit< tt)) in
    third-is (other 1) (other 2) (other 3) (other 4) ∙ e ∙ sym (third-is (field 1) (field 2) (field 3) (field 4))
place-decided field other (suc (suc (suc (suc k)))) h i s = let z : ⊥ = omega arith in absurd z

place-fresh : (field : ℕ → List ℕ) → Completed (named place) field suc 4 1
place-fresh field = put-from 1 [] tt (ap (λ (p : Position). p.wrong) position-empty)

place-mended : (field : ℕ → List ℕ) (k : ℕ) → 0 < k → k ≤ 4 → named place field ≡ k → Unit {0} → Completed (named place) field suc 4 k
place-mended field zero h i e u = let z : ⊥ = omega arith in absurd z
place-mended field (suc zero) h i e u = place-fresh field
place-mended field (suc (suc zero)) h i e u =
    let lat = field 1 in
    let b : eqb (named place field) 1 ≡ false = rw e in
    let n = north-good lat (sym (first-is lat (field 2) (field 3) (field 4)) ∙ b) in
    put-from 2 (ns_for lat ∷ lon_for lat ∷ ew_for (lon_for lat) ∷ []) (clean-ns lat, (clean-lon lat, (clean-ew (lon_for lat), tt)))
    (third-good lat (ns_for lat) n)
place-mended field (suc (suc (suc zero))) h i e u =
    let lat = field 1 in
    let b : eqb (named place field) 3 ≡ true = rw e in
    let n = and_left _ _ (sym (third-is lat (field 2) (field 3) (field 4)) ∙ b) in
    put-from 3 (lon_for lat ∷ ew_for (lon_for lat) ∷ []) (clean-lon lat, (clean-ew (lon_for lat), tt))
    (third-good lat (field 2) (eqb-true (north lat (field 2)).wrong 0 n))
place-mended field (suc (suc (suc (suc zero)))) h i e u =
    put-from 4 (ew_for (field 3) ∷ []) (clean-ew (field 3), tt) (fourth-good (field 1) (field 2) (field 3) (field 4) e)
place-mended field (suc (suc (suc (suc (suc k))))) h i e u = let z : ⊥ = omega arith in absurd z

pub prefix-place : PrefixForm place
prefix-place =
    prefix-several place place-own (λ field. position-most (field 1) (field 2) (field 3) (field 4)) place-decided place-mended place-fresh
