-- Positions and variations: how far they reach, whatever the fields hold, since what is refused or missing is held as zero.
use Prim.Native.Nat.{◌*◌, ◌+◌, ◌<◌, ◌≤◌, suc, ℕ}
use mathlib.Core.Bool.{◌&&◌, ◌||◌, Bool, false, not, true}
use mathlib.Core.List.{List}
use Rattle.std.specs.Prelude.{None, Option, Some}
use Rattle.digits.proofs.Options.{some-injective}
use mathlib.Core.Path.{◌≡◌, refl, sym}
use native.Mathlib.Omega.{arith}
use lib.Dec.{eqb, ltb}
use lib.IntN.{nat_abs}
use lib.ListN.{drop, get_or, length, take}
use borrow.Author.Tests.{leb-true}
use Rattle.digits.specs.Ascii.{ascii}
use Rattle.digits.specs.Decimal.{digits_of}
use Rattle.digits.specs.Pick.{pick}
use Rattle.digits.specs.Same.{same}
use Rattle.digits.specs.Sign.{signed, Under}
use Rattle.digits.proofs.Bools.{and_right}
use Rattle.digits.proofs.Options.{nothing, through}
use Rattle.digits.proofs.SignLaws.{size}
use Rattle.form.specs.Got.{got_int_of, missing_int}
use Rattle.form.specs.declared.got.GotInt.{GotInt}
use Rattle.form_number.specs.Number.{below_of}
use Rattle.form_number.proofs.NumberLaws.{below-lt}
use Rattle.form_position.specs.Angle.{angle_of, both_of, joined_of, latitude_of, lettered_of, longitude_of, position_form, refused_at}
use Rattle.form_position.specs.Angle.{sided_of, variation_form, wrong_int}
use Rattle.form_position.specs.declared.Position.{Position}

joined-le : (limit : ℕ) (d m p : Option ℕ) (v : ℕ) → joined_of limit d m p ≡ Some v → v ≤ limit
unfolding joined_of
joined-le limit None m p v e = nothing v e
joined-le limit (Some d) None p v e = nothing v e
joined-le limit (Some d) (Some m) None v e = nothing v e
joined-le limit (Some d) (Some m) (Some p) v e =
    let t = through _ _ _ e in
    rw (some-injective (d * 600000 + m * 10000 + p) v t.1) at
    (leb-true (d * 600000 + m * 10000 + p) limit (and_right (ltb m 60) _ t.0))

-- An angle is at most its limit.
pub angle-le : (w limit : ℕ) (f : List ℕ) (v : ℕ) → angle_of w limit f ≡ Some v → v ≤ limit
unfolding angle_of
angle-le w limit f v e =
    joined-le limit (digits_of w w (take w f)) (digits_of 2 2 (take 2 (drop w f))) (digits_of 4 4 (drop (w + 3) f)) v
    (through (eqb (length f) (w + 7) && eqb (get_or f (w + 2) 0) 46) _ v e).1

-- What a reader of angles answers can be held with either sign.
pub angle-under : (w limit : ℕ) (f : List ℕ) (o : Option ℕ) → limit < 1000000000 → o ≡ angle_of w limit f → Under 1000000000 o
angle-under w limit f (Some v) h e = omega (arith, angle-le w limit f v (sym e))
angle-under w limit f None h e = tt

-- One of two values, each of which is small.
module _ (k : ℕ) where
  abbrev Small : GotInt → Type 0
  Small g = nat_abs g.value ≤ k

  chosen : (t : Bool) (a b : GotInt) → Small a → Small b → Small (pick t a b)
  chosen true a b h i = h
  chosen false a b h i = i

  lettered-size : (plus minus u : List ℕ) (o : Option ℕ) → Under (suc k) o → Small (lettered_of plus minus u o)
  unfolding lettered_of
  lettered-size plus minus u None h = omega arith
  lettered-size plus minus u (Some v) h =
      chosen (same u plus || same u minus) (got_int_of (Some (signed (same u minus) v))) (wrong_int 2 true)
      (rw (size (same u minus) v) (omega arith)) (omega arith)

  sided-size : (plus minus f u : List ℕ) (o : Option ℕ) → Under (suc k) o → Small (sided_of plus minus f u o)
  unfolding sided_of
  sided-size plus minus f u o h =
      chosen (eqb (length f) 0) (pick (eqb (length u) 0) missing_int (wrong_int 2 false)) (lettered_of plus minus u o)
      (chosen (eqb (length u) 0) missing_int (wrong_int 2 false) (omega arith) (omega arith)) (lettered-size plus minus u o h)

  angle-small : (w : ℕ) (f : List ℕ) (o : Option ℕ) → angle_of w k f ≡ o → Under (suc k) o
  angle-small w f (Some v) e = omega (arith, angle-le w k f v e)
  angle-small w f None e = tt

-- A place within two distances.
abbrev Within : ℕ → ℕ → Position → Type 0
Within a b p = (nat_abs p.lat ≤ a) × (nat_abs p.lon ≤ b)

chosen-place : (a b : ℕ) (t : Bool) (p q : Position) → Within a b p → Within a b q → Within a b (pick t p q)
chosen-place a b true p q h i = h
chosen-place a b false p q h i = i

both-size : (k l : ℕ) (a o : GotInt) → nat_abs a.value ≤ k → nat_abs o.value ≤ l → Within k l (both_of a o)
unfolding both_of
both-size k l a o h i =
    let differ = (a.there && not o.there) || ((not a.there && o.there) || eqb o.wrong 1) in
    let last = pick (eqb o.wrong 0) (record { wrong = 0; there = a.there; lat = a.value; lon = o.value }) (refused_at 4) in
    chosen-place k l (eqb a.wrong 0) (pick differ (refused_at 3) last) (refused_at a.wrong)
    (chosen-place k l differ (refused_at 3) last (omega arith, omega arith)
    (chosen-place k l (eqb o.wrong 0) (record { wrong = 0; there = a.there; lat = a.value; lon = o.value }) (refused_at 4) (h, i)
    (omega arith, omega arith))) (omega arith, omega arith)

-- A latitude is at most 90 degrees north or south, and a longitude at most 180 degrees east or west.
pub position-range : (lat ns lon ew : List ℕ)
    → (nat_abs (position_form lat ns lon ew).lat ≤ 54000000) × (nat_abs (position_form lat ns lon ew).lon ≤ 108000000)
unfolding position_form latitude_of longitude_of
position-range lat ns lon ew =
    both-size 54000000 108000000 (sided_of (ascii "N") (ascii "S") lat ns (angle_of 2 54000000 lat))
    (sided_of (ascii "E") (ascii "W") lon ew (angle_of 3 108000000 lon))
    (sided-size 54000000 (ascii "N") (ascii "S") lat ns (angle_of 2 54000000 lat) (angle-small 54000000 2 lat (angle_of 2 54000000 lat) refl))
    (sided-size 108000000 (ascii "E") (ascii "W") lon ew (angle_of 3 108000000 lon)
    (angle-small 108000000 3 lon (angle_of 3 108000000 lon) refl))

below-small : (f : List ℕ) (o : Option ℕ) → below_of 180000 f ≡ o → Under 180000 o
below-small f (Some v) e = (below-lt 180000 f v e).1
below-small f None e = tt

-- A variation is below 180 degrees east or west.
pub variation-range : (f u : List ℕ) → nat_abs (variation_form f u).value < 180000
unfolding variation_form
variation-range f u =
    let h : nat_abs (variation_form f u).value ≤ 179999 =
    chosen 179999 (eqb (length f) 0) (pick (eqb (length u) 0 || (same u (ascii "E") || same u (ascii "W"))) missing_int (wrong_int 2 false))
    (lettered_of (ascii "E") (ascii "W") u (below_of 180000 f))
    (chosen 179999 (eqb (length u) 0 || (same u (ascii "E") || same u (ascii "W"))) missing_int (wrong_int 2 false) (omega arith)
    (omega arith)) (lettered-size 179999 (ascii "E") (ascii "W") u (below_of 180000 f) (below-small f (below_of 180000 f) refl)) in
    omega arith
