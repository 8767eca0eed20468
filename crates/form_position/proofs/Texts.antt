-- The texts of positions and variations are clean, and no longer than their forms allow.
use Prim.Native.Nat.{◌%◌, ◌+◌, ◌/◌, ◌≤◌, ℕ}
use mathlib.Core.Bool.{false, true, true≢false}
use mathlib.Core.List.{List}
use mathlib.Core.Path.{◌≡◌, refl}
use native.Mathlib.Omega.{arith}
use lib.Dec.{lit<, lit≤}
use lib.IntN.{nat_abs, negsuc, pos, ℤ}
use lib.ListN.{length, length-append}
use lib.Signed.{lt_z}
use Rattle.digits.specs.Ascii.{ascii}
use Rattle.digits.specs.Decimal.{print_fixed}
use Rattle.digits.specs.Plain.{number_text}
use Rattle.digits.proofs.DecimalLaws.{length-fixed}
use Rattle.put.proofs.SignTexts.{below-zero}
use Rattle.form.proofs.Clean.{Clean, clean-append, clean-fixed}
use Rattle.form.proofs.CleanTexts.{clean-if, clean-number, length-if, point}
use Rattle.form_number.specs.declared.Signed.{Signed}
use Rattle.form_position.specs.Angle.{angle_text}
use Rattle.form_position.specs.Values.{ew_field, lat_field, lon_field, ns_field, side_text, variation_field, variation_side}
use Rattle.form_position.specs.declared.Place.{Place}

module _ (a b : List ℕ) where
  pub side-minus : (z : ℤ) → lt_z z (pos 0) ≡ true → b ≡ side_text a b z
  side-minus (pos n) e = absurd (below-zero n e)
  side-minus (negsuc n) e = refl

  pub side-plus : (z : ℤ) → lt_z z (pos 0) ≡ false → a ≡ side_text a b z
  side-plus (pos n) e = refl
  side-plus (negsuc n) e = absurd (true≢false e)

pub clean-angle : (w v : ℕ) → Clean (angle_text w v)
clean-angle w v =
    clean-append (print_fixed w (v / 600000)) _ (clean-fixed w (v / 600000))
    (clean-append (print_fixed 2 (v / 10000 % 60)) _ (clean-fixed 2 (v / 10000 % 60))
    (point (print_fixed 4 (v % 10000)) (clean-fixed 4 (v % 10000))))

pub clean-side : (plus minus : List ℕ) (z : ℤ) → Clean plus → Clean minus → Clean (side_text plus minus z)
clean-side plus minus (pos n) c d = c
clean-side plus minus (negsuc n) c d = d

pub length-angle : (w v : ℕ) → length (angle_text w v) ≤ w + 7
length-angle w v = simp (length-append, length-fixed) (omega arith)

pub length-side : (plus minus : List ℕ) (z : ℤ) (n : ℕ) → length plus ≤ n → length minus ≤ n → length (side_text plus minus z) ≤ n
length-side plus minus (pos k) n h i = h
length-side plus minus (negsuc k) n h i = i

pub field-lat : (p : Place) → Clean (lat_field p)
field-lat p = clean-if p.there (angle_text 2 (nat_abs p.lat)) (clean-angle 2 (nat_abs p.lat))

pub field-lon : (p : Place) → Clean (lon_field p)
field-lon p = clean-if p.there (angle_text 3 (nat_abs p.lon)) (clean-angle 3 (nat_abs p.lon))

pub field-ns : (p : Place) → Clean (ns_field p)
field-ns p = clean-if p.there (side_text (ascii "N") (ascii "S") p.lat)
    (clean-side (ascii "N") (ascii "S") p.lat ((lit< tt, lit< tt), tt) ((lit< tt, lit< tt), tt))

pub field-ew : (p : Place) → Clean (ew_field p)
field-ew p = clean-if p.there (side_text (ascii "E") (ascii "W") p.lon)
    (clean-side (ascii "E") (ascii "W") p.lon ((lit< tt, lit< tt), tt) ((lit< tt, lit< tt), tt))

pub field-variation : (n : Signed) → Clean (variation_field n)
field-variation n = clean-if n.there (number_text (nat_abs n.value)) (clean-number (nat_abs n.value))

pub field-side : (n : Signed) → Clean (variation_side n)
field-side n = clean-if n.there (side_text (ascii "E") (ascii "W") n.value)
    (clean-side (ascii "E") (ascii "W") n.value ((lit< tt, lit< tt), tt) ((lit< tt, lit< tt), tt))

pub long-lat : (p : Place) → length (lat_field p) ≤ 9
long-lat p = length-if p.there (angle_text 2 (nat_abs p.lat)) 9 (length-angle 2 (nat_abs p.lat))

pub long-lon : (p : Place) → length (lon_field p) ≤ 10
long-lon p = length-if p.there (angle_text 3 (nat_abs p.lon)) 10 (length-angle 3 (nat_abs p.lon))

pub long-ns : (p : Place) → length (ns_field p) ≤ 1
long-ns p = length-if p.there (side_text (ascii "N") (ascii "S") p.lat) 1 (length-side (ascii "N") (ascii "S") p.lat 1 (lit≤ tt)
    (lit≤ tt))

pub long-ew : (p : Place) → length (ew_field p) ≤ 1
long-ew p = length-if p.there (side_text (ascii "E") (ascii "W") p.lon) 1 (length-side (ascii "E") (ascii "W") p.lon 1 (lit≤ tt)
    (lit≤ tt))
