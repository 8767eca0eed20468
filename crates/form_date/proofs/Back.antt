-- Dates and zones in their range are read back as they were written.
use Prim.Native.Nat.{◌%◌, ◌/◌, ◌≤◌}
use mathlib.Core.Bool.{◌&&◌, Bool, false, true}
use mathlib.Core.List.{[]}
use mathlib.Core.Path.{◌≡◌, ap, refl, sym}
use native.Mathlib.Omega.{arith}
use lib.Dec.{eqb}
use lib.IntN.{nat_abs, negsuc, pos, ℤ}
use lib.ListN.{length, length-append}
use borrow.Author.Tests.{eqb-true}
use Rattle.digits.specs.Decimal.{print_fixed}
use Rattle.digits.proofs.Bools.{and_left, and_right}
use Rattle.digits.proofs.DecimalLaws.{length-fixed}
use Rattle.form.specs.Got.{maybe_int_of, missing_int}
use Rattle.form.specs.Values.{alike_wrong, if_there, needed_int, range_wrong, signed_wrong}
use Rattle.form.specs.declared.got.GotInt.{GotInt}
use Rattle.form.proofs.Ranged.{zero-outside}
use Rattle.form.proofs.Signed.{first-zero, signed-in, signed-none}
use Rattle.form.proofs.Values.{maybe-int-back, the_got_int, zero_one}
use Rattle.form_date.specs.Calendar.{is_date}
use Rattle.form_date.specs.Dates.{date_six, date_three}
use Rattle.form_date.specs.Values.{day_field, hours_field, minutes_field, month_field, six_field, six_wrong, three_wrong, year_field, zoned_if}
use Rattle.form_date.specs.Zone.{four_text, zone_four, zone_two}
use Rattle.form_date.specs.declared.Date.{Date}
use Rattle.form_date.specs.declared.Zone.{Zone}
use Rattle.form_date.specs.declared.dates.GotDate.{GotDate}
use Rattle.form_date.proofs.CalendarLaws.{text-six, text-three}
use Rattle.form_date.proofs.ZoneLaws.{text-four, text-two}

-- The same of a zone.
pub needed-zone : (needed : Bool) (z : Zone) → needed ≡ z.there → needed_int needed (the_got_int z.there z.minutes) ≡ 0
needed-zone needed z e = rw e (go z.there)
  where
    go : (t : Bool) → needed_int t (the_got_int t z.minutes) ≡ 0
    go true = refl
    go false = refl

pub kept-zone : (needed : Bool) (z : Zone) → needed ≡ z.there → signed_wrong 839 z.there z.minutes ≡ 0
    → zoned_if needed (the_got_int z.there z.minutes) ≡ z
kept-zone needed z e h = rw e (go z.there refl)
  where
    go : (t : Bool) → z.there ≡ t → zoned_if z.there (the_got_int z.there z.minutes) ≡ z
    go true q = rw q
    go false q =
        let m = signed-none 839 z.minutes (rw q at h) in
        rw q (ap (λ (v : ℤ). record { there = false; minutes = v }) (sym m))

pub alike-zone : (needed : Bool) (g : GotInt) → signed_wrong 839 g.there g.value ≡ 0 → (needed ≡ true → g.there ≡ true)
    → alike_wrong needed (zoned_if needed g).there (signed_wrong 839 (zoned_if needed g).there (zoned_if needed g).minutes) ≡ 0
unfolding alike_wrong signed_wrong range_wrong
alike-zone true g e h = rw (h refl) (rw (h refl) at e)
alike-zone false g e h = zero-outside

-- A value that is there, by itself.
pub told-zone : (g : GotInt) → signed_wrong 839 g.there g.value ≡ 0 → g.there ≡ true → signed_wrong 839 true g.value ≡ 0
told-zone g e h = rw h at e

-- Dates.
abbrev pub got_date : Date → GotDate
got_date d = record { wrong = 0; there = d.there; day = d.day; month = d.month; year = d.year }

six-there : (d : Date) → d.there ≡ true → six_wrong d ≡ 0 → is_date d.day d.month d.year ≡ true
unfolding six_wrong
six-there d q e = zero_one (is_date d.day d.month d.year) (rw q at e)

six-none : (d : Date) → d.there ≡ false → six_wrong d ≡ 0 → (d.day ≡ 0) × ((d.month ≡ 0) × (d.year ≡ 0))
unfolding six_wrong
six-none d q e =
    let t = zero_one (eqb d.day 0 && (eqb d.month 0 && eqb d.year 0)) (rw q at e) in
    let s = and_right (eqb d.day 0) _ t in (
      eqb-true d.day 0 (and_left _ _ t),
      (eqb-true d.month 0 (and_left _ _ s), eqb-true d.year 0 (and_right (eqb d.month 0) _ s)),
    )

six-empty : date_six [] ≡ record { wrong = 0; there = false; day = 0; month = 0; year = 0 }
unfolding date_six
six-empty = refl

three-empty : date_three [] [] [] ≡ record { wrong = 0; there = false; day = 0; month = 0; year = 0 }
unfolding date_three
three-empty = refl

pub six-back : (d : Date) → six_wrong d ≡ 0 → date_six (six_field d) ≡ got_date d
six-back d e = go d.there refl
  where
    go : (t : Bool) → d.there ≡ t → date_six (six_field d) ≡ got_date d
    go true q = rw q (text-six d.day d.month d.year (six-there d q e))
    go false q = let z = six-none d q e in rw (q, z.0, z.1.0, z.1.1) six-empty

pub three-six : (d : Date) → three_wrong d ≡ 0 → six_wrong d ≡ 0
unfolding three_wrong
three-six d e =
    let a = first-zero (range_wrong 1 31 d.there d.day) (λ q. omega arith) e in
    let b = first-zero (range_wrong 1 12 d.there d.month) (λ q. omega arith) a.1 in
    (first-zero (six_wrong d) (λ q. omega arith) b.1).0

pub three_back : (d : Date) → three_wrong d ≡ 0 → date_three (day_field d) (month_field d) (year_field d) ≡ got_date d
three_back d e = go d.there refl (three-six d e)
  where
    go : (t : Bool) → d.there ≡ t → six_wrong d ≡ 0 → date_three (day_field d) (month_field d) (year_field d) ≡ got_date d
    go true q s = rw q (text-three d.day d.month d.year (six-there d q s))
    go false q s = let z = six-none d q s in rw (q, z.0, z.1.0, z.1.1) three-empty

-- Zones.
zone-empty : zone_two [] [] ≡ missing_int
unfolding zone_two
zone-empty = refl

pub zone-back : (z : Zone) → signed_wrong 839 z.there z.minutes ≡ 0
    → zone_two (hours_field z) (minutes_field z) ≡ the_got_int z.there z.minutes
zone-back z e = go z.there refl
  where
    go : (t : Bool) → z.there ≡ t → zone_two (hours_field z) (minutes_field z) ≡ the_got_int z.there z.minutes
    go true q = rw q (text-two z.minutes (signed-in 839 z.minutes (rw q at e)))
    go false q = let a = signed-none 839 z.minutes (rw q at e) in rw (q, a) zone-empty

four-filled : (z : ℤ) → nat_abs z ≤ 839 → length (four_text z) ≡ 0 → ⊥
four-filled (pos n) h e = omega (arith, length-append (print_fixed 2 (n / 60)) (print_fixed 2 (n % 60)), length-fixed 2 (n / 60))
four-filled (negsuc n) h e = omega arith

pub four-back : (there : Bool) (z : ℤ) → signed_wrong 839 there z ≡ 0
    → maybe_int_of (if_there there (four_text z)) (zone_four (if_there there (four_text z))) ≡ the_got_int there z
four-back = maybe-int-back zone_four four_text 839 text-four four-filled
