-- Dates and zones are lawful forms.
use Prim.Native.Nat.{◌≤◌, ℕ}
use mathlib.Core.Bool.{Bool, false, true}
use mathlib.Core.List.{List}
use mathlib.Core.Path.{◌∙◌, ◌≡◌, ap, refl}
use native.Mathlib.Omega.{arith}
use lib.Dec.{lit<}
use lib.ListN.{length}
use Rattle.digits.specs.Decimal.{print_fixed}
use Rattle.form.specs.Values.{if_there, signed_wrong}
use Rattle.form.specs.declared.got.GotInt.{GotInt}
use Rattle.form.proofs.Alike.{alike-parts, needed-int-parts}
use Rattle.form.proofs.CleanTexts.{length-if}
use Rattle.form.proofs.FormLaws.{lawful-single, short-single}
use Rattle.form.proofs.Laws.{Begins, LawfulForm, ShortForm}
use Rattle.form.proofs.Signed.{is-got}
use Rattle.form_date.specs.Dates.{date_six, date_three, six_text}
use Rattle.form_date.specs.Forms.{day_month_year, ddmmyy, filled_zone, hhmm, hours_minutes}
use Rattle.form_date.specs.Values.{day_field, hours_field, minutes_field, month_field, year_field}
use Rattle.form_date.specs.Zone.{hours_text, minutes_text, zone_four_form, zone_most, zone_two}
use Rattle.form_date.specs.declared.Date.{Date}
use Rattle.form_date.specs.declared.Zone.{Zone}
use Rattle.form_date.specs.declared.dates.GotDate.{GotDate}
use Rattle.form_date.proofs.Back.{alike-zone, four-back, kept-zone, needed-zone, six-back, three_back, told-zone, zone-back}
use Rattle.form_date.proofs.CalendarLaws.{three-text}
use Rattle.form_date.proofs.Ranged.{four-in, six-in, six-short, three-in, zone-in}
use Rattle.form_date.proofs.Texts.{clean-zone, field-day, field-hours, field-minutes, field-month, field-six, field-year, field-zone}
use Rattle.form_date.proofs.Texts.{length-six, length-zone, long-day, long-hours, long-minutes, long-month, long-year, long-zone}
use Rattle.form_date.proofs.ZoneLaws.{two-text}

module _ (a b c : List ℕ) (good : (date_three a b c).wrong ≡ 0) where
  abbrev d : GotDate
  d = date_three a b c

  date-is : d.there ≡ true → (a ≡ print_fixed 2 d.day) × ((b ≡ print_fixed 2 d.month) × (c ≡ print_fixed 4 d.year))
  date-is q =
      let e : d ≡ record { wrong = 0; there = true; day = d.day; month = d.month; year = d.year } =
      ap (λ (w : ℕ). record { wrong = w; there = d.there; day = d.day; month = d.month; year = d.year }) good
      ∙ ap (λ (t : Bool). record { wrong = 0; there = t; day = d.day; month = d.month; year = d.year }) q in
      (three-text a b c d.day d.month d.year e).1

-- A date in one field.
pub lawful-ddmmyy : LawfulForm ddmmyy
lawful-ddmmyy =
    lawful-single date_six six-back (λ d e. refl) (λ d e. refl) (λ s e. six-in s) (λ d e. field-six d)
    (λ d e. omega (arith, length-if d.there (six_text d.day d.month d.year) 6 (length-six d.day d.month d.year)))

pub short-ddmmyy : ShortForm ddmmyy
short-ddmmyy = short-single date_six six-short

-- A date.
three-got : (d : Date) (field : ℕ → List ℕ) → Begins field 0 3 (day_month_year.text d)
    → day_month_year.got field ≡ date_three (day_field d) (month_field d) (year_field d)
three-got d field b = rw (← b 0 (lit< tt), ← b 1 (lit< tt), ← b 2 (lit< tt))

pub lawful-day_month_year : LawfulForm day_month_year
lawful-day_month_year =
    record {
      back = λ d e field b. is-got day_month_year (three-got d field b ∙ three_back d e) refl refl;
      sound = λ field e. three-in (field 1) (field 2) (field 3);
      count = λ d. refl;
      clean = λ d e. (field-day d, (field-month d, (field-year d, tt)));
      long = λ d e. omega (arith, long-day d, long-month d, long-year d);
    }

-- A text that is there is the field that was read.
short-if : (t : Bool) (s f : List ℕ) → (t ≡ true → f ≡ s) → length (if_there t s) ≤ length f
short-if true s f h = rw (h refl) (omega arith)
short-if false s f h = omega arith

pub short-day_month_year : ShortForm day_month_year
short-day_month_year =
    record {
      short = λ field e.
          let d = date_three (field 1) (field 2) (field 3) in
          let i = date-is (field 1) (field 2) (field 3) e in
          let day = short-if d.there (print_fixed 2 d.day) (field 1) (λ q. (i q).0) in
          let month = short-if d.there (print_fixed 2 d.month) (field 2) (λ q. (i q).1.0) in
          omega (arith, day, month, short-if d.there (print_fixed 4 d.year) (field 3) (λ q. (i q).1.1));
    }

-- A zone.
two-got : (z : Zone) (field : ℕ → List ℕ) → Begins field 0 2 (hours_minutes.text z)
    → hours_minutes.got field ≡ zone_two (hours_field z) (minutes_field z)
two-got z field b = rw (← b 0 (lit< tt), ← b 1 (lit< tt))

pub lawful-hours_minutes : LawfulForm hours_minutes
lawful-hours_minutes =
    record {
      back = λ z e field b. is-got hours_minutes (two-got z field b ∙ zone-back z e) refl refl;
      sound = λ field e. zone-in (field 1) (field 2);
      count = λ z. refl;
      clean = λ z e. (field-hours z, (field-minutes z, tt));
      long = λ z e. omega (arith, long-hours z, long-minutes z);
    }

module _ (h m : List ℕ) (good : (zone_two h m).wrong ≡ 0) where
  abbrev pub z : GotInt
  z = zone_two h m

  zone-is : z.there ≡ true → (h ≡ hours_text z.value) × (m ≡ minutes_text z.value)
  zone-is q =
      let e : z ≡ record { wrong = 0; there = true; value = z.value } =
      ap (λ (w : ℕ). record { wrong = w; there = z.there; value = z.value }) good
      ∙ ap (λ (t : Bool). record { wrong = 0; there = t; value = z.value }) q in
      (two-text h m z.value e).1

pub short-hours_minutes : ShortForm hours_minutes
short-hours_minutes =
    record {
      short = λ field e.
          let z = zone_two (field 1) (field 2) in
          let i = zone-is (field 1) (field 2) e in
          let hours = short-if z.there (hours_text z.value) (field 1) (λ q. (i q).0) in
          omega (arith, hours, short-if z.there (minutes_text z.value) (field 2) (λ q. (i q).1));
    }

-- A zone in one field.
module _ (key : Bool) where
  zone-parts : (z : Zone) → (hhmm key).fault z ≡ 0 → (key ≡ z.there) × (signed_wrong zone_most z.there z.minutes ≡ 0)
  zone-parts z = alike-parts key z.there (signed_wrong zone_most z.there z.minutes)

  zone-sound : (s : List ℕ) → (hhmm key).wrong (zone_four_form s) ≡ 0 → (hhmm key).fault ((hhmm key).value (zone_four_form s)) ≡ 0
  zone-sound s e = let z = needed-int-parts key (zone_four_form s) e in alike-zone key (zone_four_form s) (four-in s z.0) z.1

  pub lawful-hhmm : LawfulForm (hhmm key)
  lawful-hhmm =
      lawful-single zone_four_form (λ z e. four-back z.there z.minutes (zone-parts z e).1)
      (λ z e. needed-zone key z (zone-parts z e).0) (λ z e. kept-zone key z (zone-parts z e).0 (zone-parts z e).1) zone-sound
      (λ z e. field-zone z) (λ z e. omega (arith, long-zone z))

filled-sound : (s : List ℕ) → filled_zone.wrong (zone_four_form s) ≡ 0 → signed_wrong zone_most true (zone_four_form s).value ≡ 0
filled-sound s e = let z = needed-int-parts true (zone_four_form s) e in told-zone (zone_four_form s) (four-in s z.0) (z.1 refl)

pub lawful-filled_zone : LawfulForm filled_zone
lawful-filled_zone =
    lawful-single zone_four_form (four-back true) (λ z e. refl) (λ z e. refl) filled-sound (λ z e. clean-zone z)
    (λ z e. omega (arith, length-zone z))
