-- Positions and variations in their range are read back as they were written.
use Prim.Native.Nat.{ℕ}
use mathlib.Core.Bool.{Bool, false, true}
use mathlib.Core.List.{List}
use mathlib.Core.Path.{◌≡◌, refl}
use native.Mathlib.Omega.{arith}
use lib.IntN.{nat_abs, negsuc, pos, ℤ}
use Rattle.digits.specs.Ascii.{ascii}
use Rattle.form.specs.Values.{signed_wrong}
use Rattle.form.proofs.Signed.{first-zero, signed-in, signed-none}
use Rattle.form.proofs.Values.{the_got_int}
use Rattle.form_number.specs.declared.Signed.{Signed}
use Rattle.form_number.proofs.Written.{number-written}
use Rattle.form_position.specs.Angle.{position_form, variation_form}
use Rattle.form_position.specs.Values.{ew_field, lat_field, lon_field, ns_field, place_wrong, side_text, variation_field, variation_side}
use Rattle.form_position.specs.declared.Place.{Place}
use Rattle.form_position.proofs.PositionSides.{first, Lettered, placed, position-empty, position-reads, second, variation-empty}
use Rattle.form_position.proofs.PositionSides.{variation-reads, varied}

-- The letter of a value's side, and the value.
side-is : (plus minus : List ℕ) (z : ℤ) → Lettered plus minus (nat_abs z) (side_text plus minus z) z
side-is plus minus (pos n) = first
side-is plus minus (negsuc n) = second

place-parts : (p : Place) → place_wrong p ≡ 0 → (signed_wrong 54000000 p.there p.lat ≡ 0)
    × (signed_wrong 108000000 p.there p.lon ≡ 0)
unfolding place_wrong
place-parts p e =
    let a = first-zero (signed_wrong 54000000 p.there p.lat) (λ q. omega arith) e in
    let b = first-zero (signed_wrong 108000000 p.there p.lon) (λ q. omega arith) a.1 in
    (a.0, b.0)

pub place-back : (p : Place) → place_wrong p ≡ 0
    → position_form (lat_field p) (ns_field p) (lon_field p) (ew_field p) ≡ record { wrong = 0; there = p.there; lat = p.lat; lon = p.lon }
place-back p e = let a = place-parts p e in go p.there refl a.0 a.1
  where
    go : (t : Bool) → p.there ≡ t → signed_wrong 54000000 p.there p.lat ≡ 0 → signed_wrong 108000000 p.there p.lon ≡ 0
        → position_form (lat_field p) (ns_field p) (lon_field p)
        (ew_field p) ≡ record { wrong = 0; there = p.there; lat = p.lat; lon = p.lon }
    go true q x y =
        let a = signed-in 54000000 p.lat (rw q at x) in
        let o = signed-in 108000000 p.lon (rw q at y) in
        rw q (position-reads (placed a (side-is (ascii "N") (ascii "S") p.lat)) (placed o (side-is (ascii "E") (ascii "W") p.lon)))
    go false q x y =
        let a = signed-none 54000000 p.lat (rw q at x) in
        let o = signed-none 108000000 p.lon (rw q at y) in
        rw (q, a, o) position-empty

pub variation-back : (n : Signed) → signed_wrong 179999 n.there n.value ≡ 0
    → variation_form (variation_field n) (variation_side n) ≡ the_got_int n.there n.value
variation-back n e = go n.there refl e
  where
    go : (t : Bool) → n.there ≡ t → signed_wrong 179999 n.there n.value ≡ 0
        → variation_form (variation_field n) (variation_side n) ≡ the_got_int n.there n.value
    go true q x =
        let a = signed-in 179999 n.value (rw q at x) in
        rw q (variation-reads (varied (number-written (nat_abs n.value) (omega arith)) (omega arith)
        (side-is (ascii "E") (ascii "W") n.value)))
    go false q x = let a = signed-none 179999 n.value (rw q at x) in rw (q, a) variation-empty.0
