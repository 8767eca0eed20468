-- The place of a 5 in a zone, in one field and in two: zero completes it, with no minus; after `-00`, half an hour.
use Prim.Native.Nat.{◌*◌, ◌+◌, ◌≤◌, ℕ}
use mathlib.Core.Bool.{Bool, false, not, true}
use mathlib.Core.List.{[], List}
use Rattle.std.specs.Prelude.{None, Option, Some}
use Rattle.digits.specs.Bind.{bind}
use mathlib.Core.Path.{◌∙◌, ◌≡◌, ap, refl}
use native.Mathlib.Omega.{arith}
use lib.Dec.{lit<, lit≤}
use lib.IntN.{pos, ℤ}
use borrow.Author.Tests.{ne_eqb}
use Rattle.digits.specs.Decimal.{digits_of, print_fixed}
use Rattle.digits.specs.Pick.{pick}
use Rattle.digits.proofs.DecimalLaws.{fixed-rt}
use Rattle.form.specs.Got.{missing_int, within_of}
use Rattle.form.specs.Values.{needed_int, outside, range_wrong, signed_wrong}
use Rattle.form.specs.declared.got.GotInt.{GotInt}
use Rattle.form.proofs.Clean.{Clean, clean-fixed}
use Rattle.form.proofs.PlaceForms.{int-most}
use Rattle.form.proofs.PlaceLaws.{prefix-single, PrefixForm}
use Rattle.form.proofs.PlaceNeeded.{needed-most, needed-there}
use Rattle.form.proofs.PlaceSeveral.{empty, unread}
use Rattle.form.proofs.PlaceTwo.{prefix-two, Sided}
use Rattle.form.proofs.RangeLaws.{within-yes}
use Rattle.form.proofs.Values.{the_got_int}
use Rattle.form_date.specs.Forms.{filled_zone, hhmm, hours_minutes}
use Rattle.form_date.specs.Zone.{bare_of, four_text, got_zone_at, minus, zone_at, zone_four, zone_four_form, zone_of, zone_two}
use Rattle.form_date.proofs.Back.{four-back}
use Rattle.form_date.proofs.Texts.{clean-zone}

-- A zone in one field: 0000.
zone-most : (key : Bool) (s : List ℕ) → needed_int key (zone_four_form s) ≤ 1
zone-most key s = let g = zone_four_form s in needed-most key g.wrong g.there (int-most s (zone_four s))

zone-zero : zone_four_form (four_text (pos 0)) ≡ the_got_int true (pos 0)
unfolding signed_wrong range_wrong outside
zone-zero = four-back true (pos 0) refl

zone-good : (key : Bool) → needed_int key (zone_four_form (four_text (pos 0))) ≡ 0
zone-good key = rw zone-zero (needed-there key)

pub prefix-hhmm : (key : Bool) → PrefixForm (hhmm key)
prefix-hhmm key = prefix-single zone_four_form (zone-most key) (four_text (pos 0)) (clean-zone (pos 0)) (zone-good key)

pub prefix-filled_zone : PrefixForm filled_zone
prefix-filled_zone = prefix-single zone_four_form (zone-most true) (four_text (pos 0)) (clean-zone (pos 0)) (zone-good true)

abbrev hours_of : List ℕ → Option ℕ
hours_of h = within_of 0 13 (digits_of 2 2 (bare_of h))

abbrev minutes_of : List ℕ → Option ℕ
minutes_of m = within_of 0 59 (digits_of 2 2 m)

-- By whether the hours are empty, whether the minutes are, and what they are read as.
abbrev zoned : List ℕ → Bool → Bool → Option ℕ → Option ℕ → GotInt
zoned h s t a b = pick s (pick t missing_int (record { wrong = 2; there = false; value = pos 0 })) (zone_at 2 (minus h) a b)

got-is : (o : Option ℤ) → Sided (got_zone_at 2 o) true false
got-is None = record { is-there = refl; is-bad = refl; most = lit≤ tt }
got-is (Some z) = record { is-there = refl; is-bad = refl; most = lit≤ tt }

-- The minutes do not change whether the hours are there, or wrong.
zone-is : (h m : List ℕ) → Sided (zone_two h m) (not (empty h)) (unread (empty h) (hours_of h))
unfolding zone_two zone_at
zone-is h m = go (empty h) (empty m) (hours_of h)
  where
    go : (s t : Bool) (a : Option ℕ) → Sided (zoned h s t a (minutes_of m)) (not s) (unread s a)
    go true true a = record { is-there = refl; is-bad = refl; most = lit≤ tt }
    go true false a = record { is-there = refl; is-bad = refl; most = lit≤ tt }
    go false t None = record { is-there = refl; is-bad = refl; most = lit≤ tt }
    go false t (Some a) = got-is (bind (minutes_of m) λ (k : ℕ). zone_of (minus h) (a * 60 + k))

-- Half an hour more is no minus zero.
some-zone : (s : Bool) (h : ℕ) → (got_zone_at 2 (zone_of s (h * 60 + 30))).wrong ≡ 0
unfolding zone_of
some-zone false h = refl
some-zone true h = rw (ne_eqb (h * 60 + 30) 0 (λ e. omega arith))

half-hour : minutes_of (print_fixed 2 30) ≡ Some 30
half-hour = ap (within_of 0 59) (fixed-rt 2 30 (lit≤ tt) (lit< tt)) ∙ within-yes 0 59 30 (lit≤ tt) (lit≤ tt)

module _ (h : List ℕ) where
  abbrev minutes_for : List ℕ
  minutes_for = pick (empty h) [] (print_fixed 2 30)

  clean-minutes : Clean minutes_for
  clean-minutes = go (empty h)
    where
      go : (t : Bool) → Clean (pick t [] (print_fixed 2 30))
      go true = tt
      go false = clean-fixed 2 30

  minutes-good : unread (empty h) (hours_of h) ≡ false → (zone_two h minutes_for).wrong ≡ 0
  unfolding zone_two zone_at
  minutes-good q = go (empty h) (hours_of h) q
    where
      go : (s : Bool) (a : Option ℕ) → unread s a ≡ false
          → (zoned h s (empty (pick s [] (print_fixed 2 30))) a (minutes_of (pick s [] (print_fixed 2 30)))).wrong ≡ 0
      go true a q = refl
      go false None q = ap (λ (t : Bool). pick t 1 0) q
      go false (Some a) q = rw half-hour (some-zone (minus h) a)

zone-none : (zone_two [] []).wrong ≡ 0
unfolding zone_two
zone-none = refl

pub prefix-hours_minutes : PrefixForm hours_minutes
prefix-hours_minutes = prefix-two zone_two hours_of zone-is zone-none minutes_for clean-minutes minutes-good
