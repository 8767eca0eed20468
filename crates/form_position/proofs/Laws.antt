-- A position and a variation are lawful forms.
use Prim.Native.Nat.{◌-◌, ◌≤◌, ℕ}
use mathlib.Core.Bool.{Bool, false, true}
use mathlib.Core.List.{List}
use mathlib.Core.Path.{◌∙◌, ◌≡◌, refl}
use native.Mathlib.Omega.{arith}
use lib.Dec.{lit<, lit≤}
use lib.IntN.{nat_abs, ℤ}
use lib.ListN.{length}
use Rattle.digits.specs.Ascii.{ascii}
use Rattle.digits.specs.Plain.{number_text}
use Rattle.form.specs.Values.{if_there, signed_wrong}
use Rattle.form.proofs.CleanTexts.{length-below, length-if}
use Rattle.form.proofs.Laws.{Begins, LawfulForm, ShortForm}
use Rattle.form.proofs.Signed.{is-got, signed-in}
use Rattle.form_number.specs.Number.{half_circle}
use Rattle.form_number.specs.declared.Signed.{Signed}
use Rattle.form_position.specs.Angle.{position_form, variation_form}
use Rattle.form_position.specs.Forms.{place, variation}
use Rattle.form_position.specs.Values.{ew_field, lat_field, lon_field, ns_field, side_text, variation_field, variation_side}
use Rattle.form_position.specs.declared.Place.{Place}
use Rattle.form_position.proofs.Back.{place-back, variation-back}
use Rattle.form_position.proofs.Ranged.{place_read, variation-read}
use Rattle.form_position.proofs.Texts.{field-ew, field-lat, field-lon, field-ns, field-side, field-variation, length-side, long-ew}
use Rattle.form_position.proofs.Texts.{long-lat, long-lon, long-ns}

-- A position.
place-got : (p : Place) (field : ℕ → List ℕ) → Begins field 0 4 (place.text p)
    → place.got field ≡ position_form (lat_field p) (ns_field p) (lon_field p) (ew_field p)
place-got p field b = rw (← b 0 (lit< tt), ← b 1 (lit< tt), ← b 2 (lit< tt), ← b 3 (lit< tt))

pub lawful-place : LawfulForm place
lawful-place =
    record {
      back = λ p e field b. is-got place (place-got p field b ∙ place-back p e) refl refl;
      sound = λ field e. (place_read (field 1) (field 2) (field 3) (field 4) e).range;
      count = λ p. refl;
      clean = λ p e. (field-lat p, (field-ns p, (field-lon p, (field-ew p, tt))));
      long = λ p e. omega (arith, long-lat p, long-ns p, long-lon p, long-ew p);
    }

pub short-place : ShortForm place
short-place =
    record {
      short = λ field e.
          let s = place_read (field 1) (field 2) (field 3) (field 4) e in
          omega (arith, s.lat-short, s.ns-short, s.lon-short, s.ew-short);
    }

-- A variation.
variation-got : (z : Signed) (field : ℕ → List ℕ) → Begins field 0 2 (variation.text z)
    → variation.got field ≡ variation_form (variation_field z) (variation_side z)
variation-got z field b = rw (← b 0 (lit< tt), ← b 1 (lit< tt))

long-variation : (there : Bool) (z : ℤ) → signed_wrong (half_circle - 1) there z ≡ 0 → length (if_there there (number_text (nat_abs z))) ≤ 7
long-variation false z e = omega arith
long-variation true z e = length-below (nat_abs z) (omega (arith, signed-in (half_circle - 1) z e))

long-side : (z : Signed) → length (variation_side z) ≤ 1
long-side z =
    length-if z.there (side_text (ascii "E") (ascii "W") z.value) 1
    (length-side (ascii "E") (ascii "W") z.value 1 (lit≤ tt) (lit≤ tt))

pub lawful-variation : LawfulForm variation
lawful-variation =
    record {
      back = λ z e field b. is-got variation (variation-got z field b ∙ variation-back z e) refl refl;
      sound = λ field e. (variation-read (field 1) (field 2) e).range;
      count = λ z. refl;
      clean = λ z e. (field-variation z, (field-side z, tt));
      long = λ z e. omega (arith, long-variation z.there z.value e, long-side z);
    }

pub short-variation : ShortForm variation
short-variation =
    record {
      short = λ field e. let s = variation-read (field 1) (field 2) e in omega (arith, s.number_short, s.side-short);
    }
