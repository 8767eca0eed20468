-- Positions and variations that were read are in their range, and what is written of them is no longer than they were.
use Prim.Native.Nat.{◌+◌, ◌≤◌, ℕ}
use mathlib.Core.Bool.{Bool, false, true}
use mathlib.Core.List.{[], List}
use mathlib.Core.Logic.{◌⊎◌, inl, inr}
use mathlib.Core.Path.{◌≡◌, refl, subst, sym}
use native.Mathlib.Omega.{arith}
use lib.Dec.{lit≤}
use lib.IntN.{nat_abs, pos, ℤ}
use lib.ListN.{length, length-append}
use Rattle.digits.specs.Ascii.{ascii}
use Rattle.digits.proofs.DecimalLaws.{length-fixed}
use Rattle.form.specs.Got.{missing_int}
use Rattle.form.specs.Values.{signed_wrong}
use Rattle.form.specs.declared.got.GotInt.{GotInt}
use Rattle.form.proofs.Ranged.{signed-size}
use Rattle.form.proofs.Signed.{signed-good, signed-missing}
use Rattle.form_number.specs.Values.{signed_of}
use Rattle.form_number.proofs.Ranged.{shortest}
use Rattle.form_position.specs.Angle.{angle_text, position_form, variation_form}
use Rattle.form_position.specs.Values.{ew_field, lat_field, lon_field, ns_field, placed_of, place_wrong, variation_field, variation_side}
use Rattle.form_position.specs.declared.Place.{Place}
use Rattle.form_position.specs.declared.Position.{Position}
use Rattle.form_position.proofs.PositionSides.{first, Lettered, Placed, placed, position-empty, position-is, position-none, second}
use Rattle.form_position.proofs.PositionSides.{variation-empty, variation-is, variation-none, Varied, varied}
use Rattle.form_position.proofs.Texts.{length-side}

-- A value with one of its letters.
lettered-size : (plus minus : List ℕ) {v : ℕ} {u : List ℕ} {z : ℤ} → Lettered plus minus v u z → nat_abs z ≡ v
lettered-size plus minus first = refl
lettered-size plus minus {v} second = signed-size v

lettered-one : (plus minus : List ℕ) {v : ℕ} {u : List ℕ} {z : ℤ} → length plus ≡ 1 → length minus ≡ 1 → Lettered plus minus v u z
    → length u ≡ 1
lettered-one plus minus p q first = p
lettered-one plus minus p q second = q

angle-long : (w v : ℕ) → length (angle_text w v) ≡ w + 7
angle-long w v = simp (length-append, length-fixed) (omega arith)

record Half (w limit : ℕ) (f u : List ℕ) (z : ℤ) : Type 0 where
  within : nat_abs z ≤ limit
  long : length f ≡ w + 7
  letter : length u ≡ 1

half : (plus minus : List ℕ) (w limit : ℕ) {f u : List ℕ} {z : ℤ} → length plus ≡ 1 → length minus ≡ 1 → Placed plus minus w limit f u z
    → Half w limit f u z
half plus minus w limit p q (placed {v} i l) =
    record { within = rw (lettered-size plus minus l) i; long = angle-long w v; letter = lettered-one plus minus p q l }

place-good : (p : Place) → signed_wrong 54000000 p.there p.lat ≡ 0 → signed_wrong 108000000 p.there p.lon ≡ 0 → place_wrong p ≡ 0
unfolding place_wrong
place-good p a b = rw (a, b)

pub record PlaceRead (lat ns lon ew : List ℕ) (p : Place) : Type 0 where
  pub range : place_wrong p ≡ 0
  pub lat-short : length (lat_field p) ≤ length lat
  pub ns-short : length (ns_field p) ≤ length ns
  pub lon-short : length (lon_field p) ≤ length lon
  pub ew-short : length (ew_field p) ≤ length ew

module _ (lat ns lon ew : List ℕ) where
  abbrev P : Position
  P = position_form lat ns lon ew

  there-read : P.wrong ≡ 0 → P.there ≡ true → PlaceRead lat ns lon ew (record { there = true; lat = P.lat; lon = P.lon })
  there-read e h =
      let s = position-is lat ns lon ew e h in
      let a = half (ascii "N") (ascii "S") 2 54000000 refl refl s.0 in
      let o = half (ascii "E") (ascii "W") 3 108000000 refl refl s.1 in
      record {
        range = place-good (record { there = true; lat = P.lat; lon = P.lon }) (signed-good 54000000 P.lat a.within)
            (signed-good 108000000 P.lon o.within);
        lat-short = omega (arith, angle-long 2 (nat_abs P.lat), a.long);
        ns-short = omega (arith, length-side (ascii "N") (ascii "S") P.lat 1 (lit≤ tt) (lit≤ tt), a.letter);
        lon-short = omega (arith, angle-long 3 (nat_abs P.lon), o.long);
        ew-short = omega (arith, length-side (ascii "E") (ascii "W") P.lon 1 (lit≤ tt) (lit≤ tt), o.letter);
      }

  none_is : P.wrong ≡ 0 → P.there ≡ false → P ≡ record { wrong = 0; there = false; lat = pos 0; lon = pos 0 }
  none_is e h = let n = position-none lat ns lon ew e h in rw (n.0, n.1, n.2, n.3) position-empty

  pub place_read : P.wrong ≡ 0 → PlaceRead lat ns lon ew (placed_of P)
  place_read e = go P.there refl
    where
      go : (t : Bool) → P.there ≡ t → PlaceRead lat ns lon ew (placed_of P)
      go true q = subst (λ (t : Bool). PlaceRead lat ns lon ew (record { there = t; lat = P.lat; lon = P.lon })) (sym q) (there-read e q)
      go false q =
          subst (λ (p : Position). PlaceRead lat ns lon ew (placed_of p)) (sym (none_is e q)) (record {
            range = place-good (record { there = false; lat = pos 0; lon = pos 0 }) (signed-missing 54000000) (signed-missing 108000000);
            lat-short = omega arith;
            ns-short = omega arith;
            lon-short = omega arith;
            ew-short = omega arith;
          })

-- The variation.
pub record VariationRead (f u : List ℕ) (g : GotInt) : Type 0 where
  pub range : signed_wrong 179999 g.there g.value ≡ 0
  pub number_short : length (variation_field (signed_of g)) ≤ length f
  pub side-short : length (variation_side (signed_of g)) ≤ length u

module _ (f u : List ℕ) where
  abbrev G : GotInt
  G = variation_form f u

  varied-read : {z : ℤ} → Varied f u z → VariationRead f u (record { wrong = 0; there = true; value = z })
  varied-read {z} (varied {v = v} w h l) =
      let n = lettered-size (ascii "E") (ascii "W") l in
      let s = shortest w in
      record {
        range = signed-good 179999 z (omega (arith, n, h));
        number_short = rw n s.short;
        side-short = omega (
          arith,
          length-side (ascii "E") (ascii "W") z 1 (lit≤ tt) (lit≤ tt),
          lettered-one (ascii "E") (ascii "W") refl refl l,
        );
      }

  missing-read : VariationRead f u missing_int
  missing-read = record { range = signed-missing 179999; number_short = omega arith; side-short = omega arith }

  none-missing : (f ≡ []) × ((u ≡ []) ⊎ ((u ≡ ascii "E") ⊎ (u ≡ ascii "W"))) → G ≡ missing_int
  none-missing (a, inl b) = rw (a, b) variation-empty.0
  none-missing (a, inr (inl b)) = rw (a, b) variation-empty.1
  none-missing (a, inr (inr b)) = rw (a, b) variation-empty.2

  pub variation-read : G.wrong ≡ 0 → VariationRead f u G
  variation-read e = go G.there refl
    where
      same : (g : GotInt) → g.wrong ≡ 0 → g.there ≡ true → VariationRead f u (record { wrong = 0; there = true; value = g.value })
          → VariationRead f u g
      same g p q r = subst (λ (t : Bool). VariationRead f u (record { wrong = g.wrong; there = t; value = g.value })) (sym q)
          (subst (λ (w : ℕ). VariationRead f u (record { wrong = w; there = true; value = g.value })) (sym p) r)

      go : (t : Bool) → G.there ≡ t → VariationRead f u G
      go true q = same G e q (varied-read (variation-is f u e q))
      go false q = subst (λ (g : GotInt). VariationRead f u g) (sym (none-missing (variation-none f u e q))) missing-read
