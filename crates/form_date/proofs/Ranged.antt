-- Dates and zones that were read are in their range.
use Prim.Native.Nat.{◌*◌, ◌+◌, ◌≤◌, ℕ}
use mathlib.Core.Bool.{Bool, cond, false, true}
use mathlib.Core.List.{List}
use Rattle.std.specs.Prelude.{None, Option, Some}
use Rattle.digits.specs.Bind.{bind}
use mathlib.Core.Path.{◌∙◌, ◌≡◌, ap, refl, subst}
use native.Mathlib.Omega.{arith}
use lib.Dec.{eqb}
use lib.IntN.{pos, ℤ}
use lib.ListN.{length}
use Rattle.digits.specs.Decimal.{digits_of}
use Rattle.digits.specs.Pick.{pick}
use Rattle.digits.proofs.Bools.{true-false}
use Rattle.form.specs.Got.{maybe_int_of, missing_int, within_of}
use Rattle.form.specs.Values.{if_there, range_wrong, signed_wrong}
use Rattle.form.specs.declared.got.GotInt.{GotInt}
use Rattle.form.proofs.Ranged.{in-outside, maybe-int-in, zero-outside}
use Rattle.form.proofs.Signed.{signed-good, signed-missing}
use Rattle.form_date.specs.Calendar.{is_date}
use Rattle.form_date.specs.Dates.{date_at, date_six, date_three, no_date, six_text, the_date}
use Rattle.form_date.specs.Values.{dated_of, six_field, six_wrong, three_wrong}
use Rattle.form_date.specs.Zone.{bare_of, four_text, got_zone_at, minus, zone_at, zone_four, zone_of, zone_two}
use Rattle.form_date.specs.declared.dates.GotDate.{GotDate}
use Rattle.form_date.proofs.CalendarLaws.{date-ranges, Ranges, six-sound, six-text, three-sound}
use Rattle.form_date.proofs.ZoneLaws.{four-range, two-range}

pub four-in : (f : List ℕ) → (maybe_int_of f (zone_four f)).wrong ≡ 0
    → signed_wrong 839 (maybe_int_of f (zone_four f)).there (maybe_int_of f (zone_four f)).value ≡ 0
four-in = maybe-int-in zone_four four_text 839 four-range

-- Dates: a date that is not there holds zeros.
abbrev Zeros : GotDate → Type 0
Zeros d = d.there ≡ false → (d.day ≡ 0) × ((d.month ≡ 0) × (d.year ≡ 0))

no-zeros : (n : ℕ) → Zeros (no_date n)
no-zeros n e = (refl, (refl, refl))

pick-zeros : (t : Bool) (x y : GotDate) → Zeros x → Zeros y → Zeros (pick t x y)
pick-zeros true x y p q = p
pick-zeros false x y p q = q

the-zeros : (d m y : ℕ) → Zeros (the_date d m y)
the-zeros d m y e = absurd (true-false refl e)

at-zeros : (a b c : ℕ) (d m y : Option ℕ) → Zeros (date_at a b c d m y)
unfolding date_at
at-zeros a b c None m y = no-zeros a
at-zeros a b c (Some d) None y = no-zeros b
at-zeros a b c (Some d) (Some m) None = no-zeros c
at-zeros a b c (Some d) (Some m) (Some y) = pick-zeros (is_date d m y) (the_date d m y) (no_date c) (the-zeros d m y) (no-zeros c)

six-zeros : (f : List ℕ) → Zeros (date_six f)
unfolding date_six
six-zeros f = pick-zeros (eqb (length f) 0) _ _ (no-zeros 0) (pick-zeros (eqb (length f) 6) _ _ (at-zeros 1 1 1 _ _ _) (no-zeros 1))

three-zeros : (d m y : List ℕ) → Zeros (date_three d m y)
unfolding date_three
three-zeros d m y = pick-zeros (eqb (length d) 0) _ _ (no-zeros (cond (eqb (length m) 0) (cond (eqb (length y) 0) 0 3) 2))
    (at-zeros 1 2 3 _ _ _)

module _ (g : GotDate) (sound : g.there ≡ true → is_date g.day g.month g.year ≡ true) (zeros : Zeros g) where
  six-good : six_wrong (dated_of g) ≡ 0
  unfolding six_wrong
  six-good = go g.there refl
    where
      go : (t : Bool) → g.there ≡ t → six_wrong (dated_of g) ≡ 0
      go true q = rw (q, sound q)
      go false q = let z = zeros q in rw (q, z.0, z.1.0, z.1.1)

  part-good : (lo hi v : ℕ) → (g.there ≡ true → (lo ≤ v) × (v ≤ hi)) → (g.there ≡ false → v ≡ 0) → range_wrong lo hi g.there v ≡ 0
  unfolding range_wrong
  part-good lo hi v a b = go g.there refl
    where
      go : (t : Bool) → g.there ≡ t → range_wrong lo hi g.there v ≡ 0
      go true q = let r = a q in rw q (in-outside lo hi v r.0 r.1)
      go false q = rw (q, b q) zero-outside

  ranges : g.there ≡ true → Ranges g.day g.month g.year
  ranges q = date-ranges g.day g.month g.year (sound q)

  three-good : three_wrong (dated_of g) ≡ 0
  unfolding three_wrong
  three-good =
      rw (
        part-good 1 31 g.day (λ q. ((ranges q).day-from, (ranges q).day-to)) (λ q. (zeros q).0),
        part-good 1 12 g.month (λ q. ((ranges q).month-from, (ranges q).month-to)) (λ q. (zeros q).1.0),
        six-good,
      )

pub six-in : (f : List ℕ) → six_wrong (dated_of (date_six f)) ≡ 0
six-in f = six-good (date_six f) (six-sound f) (six-zeros f)

pub three-in : (d m y : List ℕ) → three_wrong (dated_of (date_three d m y)) ≡ 0
three-in d m y = three-good (date_three d m y) (three-sound d m y) (three-zeros d m y)

-- Six digits, where there are any.
pub six-short : (f : List ℕ) → (date_six f).wrong ≡ 0 → length (six_field (dated_of (date_six f))) ≤ length f
six-short f e = go (date_six f).there refl
  where
    whole : (date_six f).there ≡ true → date_six f ≡ the_date (date_six f).day (date_six f).month (date_six f).year
    whole q =
        ap (λ (w : ℕ). record {
          wrong = w;
          there = (date_six f).there;
          day = (date_six f).day;
          month = (date_six f).month;
          year = (date_six f
              ).year;
        }) e
        ∙ ap (λ (t : Bool). record { wrong = 0; there = t; day = (date_six f).day; month = (date_six f).month; year = (date_six f).year }) q

    go : (t : Bool) → (date_six f).there ≡ t
        → length (if_there (date_six f).there (six_text (date_six f).day (date_six f).month (date_six f).year)) ≤ length f
    go true q =
        let l = six-text f (date_six f).day (date_six f).month (date_six f).year (whole q) in
        rw q (subst (λ (x : List ℕ). length x ≤ length f) l.1 (omega arith))
    go false q = rw q (omega arith)

-- Zones: one that is not there is zero.
got-there : (n : ℕ) (o : Option ℤ) → (got_zone_at n o).there ≡ true
got-there n None = refl
got-there n (Some z) = refl

at_there : (n : ℕ) (s : Bool) (h m : Option ℕ) → (zone_at n s h m).there ≡ true
unfolding zone_at
at_there n s None m = refl
at_there n s (Some h) m = got-there n (bind m λ (k : ℕ). zone_of s (h * 60 + k))

none-zero : (h m : List ℕ) → (zone_two h m).there ≡ false → (zone_two h m).value ≡ pos 0
unfolding zone_two
none-zero h m e = go (eqb (length h) 0) (eqb (length m) 0) e
  where
    a : GotInt
    a = zone_at 2 (minus h) (within_of 0 13 (digits_of 2 2 (bare_of h))) (within_of 0 59 (digits_of 2 2 m))

    go : (s t : Bool) → (pick s (pick t missing_int (record { wrong = 2; there = false; value = pos 0 })) a).there ≡ false
        → (pick s (pick t missing_int (record { wrong = 2; there = false; value = pos 0 })) a).value ≡ pos 0
    go true true q = refl
    go true false q = refl
    go false t q = absurd (true-false (at_there 2 (minus h) (within_of 0 13 (digits_of 2 2 (bare_of h))) (within_of 0 59 (digits_of 2 2 m))) q)

pub zone-in : (h m : List ℕ) → signed_wrong 839 (zone_two h m).there (zone_two h m).value ≡ 0
zone-in h m = go (zone_two h m).there refl
  where
    go : (t : Bool) → (zone_two h m).there ≡ t → signed_wrong 839 (zone_two h m).there (zone_two h m).value ≡ 0
    go true q = rw q (signed-good 839 (zone_two h m).value (two-range h m))
    go false q = rw (q, none-zero h m q) (signed-missing 839)
