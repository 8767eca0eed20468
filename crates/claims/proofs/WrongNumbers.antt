-- A host's number that is no mark, or that a record cannot hold, is refused and never taken for another: a value behind what is no mark
-- is missing and not zero, one that does not fit is the last of 32 bits, and both are outside their ranges; the GPS mask has a test of its
-- own.
use Prim.Native.Nat.{◌<◌, ◌≤◌, ℕ}
use mathlib.Core.Path.{◌∙◌, ◌≡◌, ap, refl, sym}
use mathlib.Core.Bool.{◌&&◌, Bool, cond, false, true}
use mathlib.Core.List.{List}
use native.Mathlib.Omega.{arith}
use borrow.Author.Tests.{le-leb, leb-false, lt-leb, ne_eqb}
use lib.Dec.{eqb, leb}
use lib.IntN.{negsuc, pos, ℤ}
use lib.ListN.{length}
use Rattle.form.specs.Values.{outside, range_wrong, signed_wrong}
use Rattle.form_position.specs.Values.{place_wrong}
use Rattle.form_date.specs.Values.{six_wrong, three_wrong}
use Rattle.form.specs.Kind.{fault_by}
use Rattle.form.proofs.Laws.{near-zero}
use Rattle.kind_gga.specs.Row.{gga_row, gga_wrong}
use Rattle.frame.specs.Written.{refused, written_of}
use Rattle.frame.proofs.Sealing.{fault-out}
use Rattle.numbers.specs.Numbers.{is_mark, is_there, is_whole, most, whole_of}
use Rattle.numbers.specs.Layout.{◌then◌, Layout, marked, number_at, signed, whole}
use Rattle.form.specs.Numbers.{maybe_layout}
use Rattle.form_position.specs.Numbers.{place_layout}
use Rattle.form_number.specs.Numbers.{signed_layout}
use Rattle.kind_gga.specs.Row.{gga_layout}
use Rattle.kind_pir_masks.specs.Reply.{pirsa_layout, pirsa_row}
use Rattle.kind_pir_masks.specs.Command.{pirsr_layout, pirsr_row}
use Rattle.sentence.specs.Back.{address_at, known_of, record_at}
use Rattle.kind_gga.specs.Row.{gga_at}
use Rattle.sentence.specs.FromHost.{gps_over, numbers_fault, record_body, written_as}

-- One is no mark's: a value behind any other number is missing.
there-mark : (z : ℤ) → is_mark z ≡ false → is_there z ≡ false
unfolding is_mark is_there
there-mark (pos n) e = ne-one n e
  where
    ne-one : (n : ℕ) → leb n 1 ≡ false → eqb n 1 ≡ false
    ne-one n i = ne_eqb n 1 (λ q. omega (arith, leb-false n 1 i, q))
there-mark (negsuc n) e = refl

-- The law of all values that may be missing: behind what is no mark stands the spoilt value, marked missing.
pub no-mark : {X : Type 0} (spoilt : X) (a : Layout X) (l : List ℤ) (p : ℕ) → is_mark (number_at l p) ≡ false
    → (marked spoilt a).at l p ≡ (false, spoilt)
no-mark spoilt a l p e = rw (there-mark (number_at l p) e, e)

-- Which is outside every range, in the first field of its form.
pub range-spoilt : (lo hi : ℕ) → range_wrong lo hi false 1 ≡ 1
unfolding range_wrong outside
range-spoilt lo hi = refl

pub signed-spoilt : (hi : ℕ) → signed_wrong hi false (pos 1) ≡ 1
unfolding signed_wrong range_wrong outside
signed-spoilt hi = refl

pub place-spoilt : place_wrong (record { there = false; lat = pos 1; lon = pos 0 }) ≡ 1
unfolding place_wrong signed_wrong range_wrong outside
place-spoilt = refl

pub date-spoilt : (six_wrong (record { there = false; day = 1; month = 0; year = 0 }) ≡ 1)
    × (three_wrong (record { there = false; day = 1; month = 0; year = 0 }) ≡ 1)
unfolding six_wrong three_wrong range_wrong outside
date-spoilt = (refl, refl)

-- A number that a value without sign cannot hold is outside every range that ends before the last of 32 bits.
pub whole-over : (lo hi : ℕ) (z : ℤ) → hi < most → is_whole z ≡ false → outside lo hi (whole_of z) ≡ 1
unfolding outside whole_of
whole-over lo hi z h e = rw (e, lt-leb most hi h) (go (leb lo most))
  where
    go : (b : Bool) → ◌≡◌ {A = ℕ} (cond (b && false) 0 1) 1
    go true = refl
    go false = refl

-- The eight marks of a GGA.
pub record GgaMarks (n : List ℤ) : Type 0 where
  pub time : is_mark (number_at n 1) ≡ true
  pub place : is_mark (number_at n 3) ≡ true
  pub satellites : is_mark (number_at n 7) ≡ true
  pub hdop : is_mark (number_at n 9) ≡ true
  pub altitude : is_mark (number_at n 11) ≡ true
  pub geoid : is_mark (number_at n 13) ≡ true
  pub age : is_mark (number_at n 15) ≡ true
  pub station : is_mark (number_at n 17) ≡ true

-- A form whose spoilt value is wrong has a mark where it has no fault.
pub mark-of : {X R : Type 0} (spoilt : X) (a : Layout X) (to : Bool × X → R) (fault : R → ℕ) → fault (to (false, spoilt)) ≡ 1
    → (l : List ℤ) (p : ℕ) → fault (to ((marked spoilt a).at l p)) ≡ 0 → is_mark (number_at l p) ≡ true
mark-of spoilt a to fault w l p e = go (is_mark (number_at l p)) refl
  where
    go : (b : Bool) → is_mark (number_at l p) ≡ b → b ≡ true
    go true q = refl
    go false q =
        let z : ◌≡◌ {A = ℕ} 1 0 = sym w ∙ ap (λ v. fault (to v)) (sym (no-mark spoilt a l p q)) ∙ e in
        let y : ⊥ = omega (arith, z) in
        absurd y

marked-range : (lo hi : ℕ) (n : List ℤ) (p : ℕ) → range_wrong lo hi (maybe_layout.at n p).there (maybe_layout.at n p).value ≡ 0
    → is_mark (number_at n p) ≡ true
marked-range lo hi n p e = mark-of 1 whole (λ v. v) (λ v. range_wrong lo hi v.0 v.1) (range-spoilt lo hi) n p e

marked-signed : (hi : ℕ) (n : List ℤ) (p : ℕ) → signed_wrong hi (signed_layout.at n p).there (signed_layout.at n p).value ≡ 0
    → is_mark (number_at n p) ≡ true
marked-signed hi n p e = mark-of (pos 1) signed (λ v. v) (λ v. signed_wrong hi v.0 v.1) (signed-spoilt hi) n p e

marked-place : (n : List ℤ) (p : ℕ) → place_wrong (place_layout.at n p) ≡ 0 → is_mark (number_at n p) ≡ true
marked-place n p e =
    mark-of (pos 1, pos 0) (signed then signed) (λ v. record { there = v.0; lat = v.1.0; lon = v.1.1 }) place_wrong place-spoilt n p e

pub gga-marks : (n : List ℤ) → gga_wrong (gga_at n) ≡ 0 → GgaMarks n
unfolding fault_by gga_row gga_layout
gga-marks n e =
    let z0 = near-zero _ _ _ e in let z1 = near-zero _ _ _ z0.1 in let z2 = near-zero _ _ _ z1.1 in
    let z3 = near-zero _ _ _ z2.1 in let z4 = near-zero _ _ _ z3.1 in let z5 = near-zero _ _ _ z4.1 in
    let z6 = near-zero _ _ _ z5.1 in let z7 = near-zero _ _ _ z6.1 in let z8 = near-zero _ _ _ z7.1 in
    record {
      time = marked-range 0 8639999 n 1 z0.0;
      place = marked-place n 3 z1.0;
      satellites = marked-range 0 99 n 7 z3.0;
      hdop = marked-range 0 999999999 n 9 z4.0;
      altitude = marked-signed 999999999 n 11 z5.0;
      geoid = marked-signed 999999999 n 13 z6.0;
      age = marked-range 0 999999999 n 15 z7.0;
      station = marked-range 0 1023 n 17 z8.0;
    }

-- The GPS mask.
gps-refused : (kind : ℕ) (n : List ℤ) (out : List ℕ) → gps_over kind n ≡ true → written_as kind n out ≡ refused 5 1 1
gps-refused kind n out e =
    ap (λ (b : Bool). written_of (numbers_fault b (record_at kind n)) (record_body (record_at kind n)) (length out)) e
    ∙ sym (fault-out (refused 5 1 1) (record_body (record_at kind n)) out (λ z. omega (arith, z))).answers

pub gps-asked : (n : List ℤ) (out : List ℕ) → 4 ≤ length n → is_there (number_at n 0) ≡ true → is_whole (number_at n 1) ≡ false
    → written_as 10 n out ≡ refused 5 1 1
unfolding gps_over address_at known_of pirsr_layout pirsr_row
gps-asked n out h t w = gps-refused 10 n out (rw (le-leb 4 (length n) h, t, w))

pub gps-told : (n : List ℤ) (out : List ℕ) → 2 ≤ length n → is_whole (number_at n 0) ≡ false → written_as 14 n out ≡ refused 5 1 1
unfolding gps_over address_at known_of pirsa_layout pirsa_row
gps-told n out h w = gps-refused 14 n out (rw (le-leb 2 (length n) h, w))
