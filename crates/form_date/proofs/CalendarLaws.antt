-- A date from both sides: each way of the definition but one refuses, and that one is a date of the calendar.
use Prim.Native.Nat.{◌%◌, ◌+◌, ◌<◌, ◌≤◌, ℕ}
use mathlib.Core.Bool.{◌&&◌, ◌||◌, Bool, cond, false, true}
use mathlib.Core.List.{◌++◌, append-nil, List}
use Rattle.std.specs.Prelude.{None, Option, option_map, Some}
use mathlib.Core.Path.{◌∙◌, ◌≡◌, ap, refl, sym}
use native.Mathlib.Omega.{arith}
use lib.Dec.{eqb, leb, lit≤, ltb}
use lib.ListN.{drop_of_length-le, length}
use borrow.Author.Tests.{eqb-true, leb-true, ltb-false, ltb-true}
use Rattle.digits.specs.Decimal.{digits_of, print_fixed}
use Rattle.digits.specs.Pairs.{pair_at}
use Rattle.digits.specs.Pick.{pick}
use Rattle.digits.specs.Sign.{Under}
use Rattle.digits.proofs.Bools.{and_left, and_right, true-false}
use Rattle.digits.proofs.DecimalLaws.{fixed-rt, length-fixed}
use Rattle.digits.proofs.DigitSides.{fixed-are}
use Rattle.digits.proofs.Options.{nothing}
use Rattle.digits.proofs.PairLaws.{pair-cut, pair_lt}
use Rattle.form.specs.Got.{within_of}
use Rattle.form.proofs.RangeLaws.{within-range, within-yes}
use Rattle.form_date.specs.Calendar.{days_in, is_date, leap_year}
use Rattle.form_date.specs.Dates.{date_at, date_six, date_three, full_year, no_date, the_date}
use Rattle.form_date.specs.declared.dates.GotDate.{GotDate}

-- A date that is there exists in the calendar, from 1980 to 2079.
abbrev pub Sound : GotDate → Type 0
Sound r = r.there ≡ true → is_date r.day r.month r.year ≡ true

no-sound : (n : ℕ) → Sound (no_date n)
no-sound n e = absurd (true-false e refl)

pick-sound : (t : Bool) (x y : GotDate) → (t ≡ true → Sound x) → Sound y → Sound (pick t x y)
pick-sound true x y p q = p refl
pick-sound false x y p q = q

at-sound : (a b c : ℕ) (d m y : Option ℕ) → Sound (date_at a b c d m y)
unfolding date_at
at-sound a b c None m y = no-sound a
at-sound a b c (Some d) None y = no-sound b
at-sound a b c (Some d) (Some m) None = no-sound c
at-sound a b c (Some d) (Some m) (Some y) = pick-sound (is_date d m y) (the_date d m y) (no_date c) (λ p e. p) (no-sound c)

-- What RMC's field gives.
pub six-sound : (f : List ℕ) → Sound (date_six f)
unfolding date_six
six-sound f =
    pick-sound (eqb (length f) 0) _ _ (λ e. no-sound 0) (pick-sound (eqb (length f) 6) _ _ (λ e. at-sound 1 1 1 _ _ _) (no-sound 1))

-- What ZDA's three fields give.
pub three-sound : (d m y : List ℕ) → Sound (date_three d m y)
unfolding date_three
three-sound d m y = pick-sound (eqb (length d) 0) _ _ (λ e. no-sound (cond (eqb (length m) 0) (cond (eqb (length y) 0) 0 3) 2))
    (at-sound 1 2 3 _ _ _)

-- No date is not one.
not_there : {B : Type 0} (n d m y : ℕ) → no_date n ≡ the_date d m y → B
not_there n d m y e = absurd (true-false refl (sym (ap (λ (r : GotDate). r.there) e)))

-- The parts of a date that is there were read, and it exists.
parts : (a b c : ℕ) (od om oy : Option ℕ) (d m y : ℕ) → date_at a b c od om oy ≡ the_date d m y
    → (od ≡ Some d) × ((om ≡ Some m) × ((oy ≡ Some y) × (is_date d m y ≡ true)))
unfolding date_at
parts a b c None om oy d m y e = not_there a d m y e
parts a b c (Some i) None oy d m y e = not_there b d m y e
parts a b c (Some i) (Some j) None d m y e = not_there c d m y e
parts a b c (Some i) (Some j) (Some k) d m y e = go (is_date i j k) refl e
  where
    go : (t : Bool) → is_date i j k ≡ t → pick t (the_date i j k) (no_date c) ≡ the_date d m y
        → (Some i ≡ Some d) × ((Some j ≡ Some m) × ((Some k ≡ Some y) × (is_date d m y ≡ true)))
    go true p q =
        let u : i ≡ d = ap (λ (r : GotDate). r.day) q in
        let v : j ≡ m = ap (λ (r : GotDate). r.month) q in
        let w : k ≡ y = ap (λ (r : GotDate). r.year) q in
        (ap Some u, (ap Some v, (ap Some w, rw (← u, ← v, ← w) p)))
    go false p q = not_there c d m y q

pick_second : (t : Bool) (n : ℕ) (x : GotDate) (d m y : ℕ) → pick t (no_date n) x ≡ the_date d m y → (t ≡ false) × (x ≡ the_date d m y)
pick_second true n x d m y e = not_there n d m y e
pick_second false n x d m y e = (refl, e)

pick_first : (t : Bool) (n : ℕ) (x : GotDate) (d m y : ℕ) → pick t x (no_date n) ≡ the_date d m y → (t ≡ true) × (x ≡ the_date d m y)
pick_first true n x d m y e = (refl, e)
pick_first false n x d m y e = not_there n d m y e

-- The range of each part of a date.
pub record Ranges (d m y : ℕ) : Type 0 where
  pub day-from : 1 ≤ d
  pub day-to : d ≤ 31
  pub month-from : 1 ≤ m
  pub month-to : m ≤ 12
  pub year-from : 1980 ≤ y
  pub year-to : y ≤ 2079

-- The days of a month are at most 31, and there are none but in a month.
days-le : (m y d : ℕ) → 1 ≤ d → d ≤ days_in m y → (d ≤ 31) × ((1 ≤ m) × (m ≤ 12))
unfolding days_in
days-le m y d h k =
    go (leb 1 m && leb m 12) (eqb m 2) (leap_year y) (eqb m 4 || (eqb m 6 || (eqb m 9 || eqb m 11)))
    (λ e. (leb-true 1 m (and_left _ _ e), leb-true m 12 (and_right (leb 1 m) _ e))) k
  where
    go : (t a b c : Bool) → (t ≡ true → (1 ≤ m) × (m ≤ 12)) → d ≤ cond t (cond a (cond b 29 28) (cond c 30 31)) 0 → (d ≤ 31)
        × ((1 ≤ m) × (m ≤ 12))
    go true true true c r q = (omega arith, r refl)
    go true true false c r q = (omega arith, r refl)
    go true false b true r q = (omega arith, r refl)
    go true false b false r q = (omega arith, r refl)
    go false a b c r q = let z : ⊥ = omega arith in absurd z

-- A date has its day, its month and its year in range.
pub date-ranges : (d m y : ℕ) → is_date d m y ≡ true → Ranges d m y
unfolding is_date
date-ranges d m y e =
    let l = and_left (leb 1980 y && leb y 2079) _ e in
    let r = and_right (leb 1980 y && leb y 2079) _ e in
    let k : 1 ≤ d = leb-true 1 d (and_left _ _ r) in
    let p = days-le m y d k (leb-true d (days_in m y) (and_right (leb 1 d) _ r)) in
    record {
      day-from = k;
      day-to = p.0;
      month-from = p.1.0;
      month-to = p.1.1;
      year-from = leb-true 1980 y (and_left _ _ l);
      year-to = leb-true y 2079 (and_right (leb 1980 y) _ l);
    }

-- Two digits say a year's last two, and the year is found again.
year-last : (yy : ℕ) → yy < 100 → full_year yy % 100 ≡ yy
unfolding full_year
year-last yy h = go (ltb yy 80)
  where
    go : (t : Bool) → cond t (2000 + yy) (1900 + yy) % 100 ≡ yy
    go true = omega arith
    go false = omega arith

year-again : (y : ℕ) → 1980 ≤ y → y ≤ 2079 → full_year (y % 100) ≡ y
unfolding full_year
year-again y h k = go (ltb (y % 100) 80) refl
  where
    go : (t : Bool) → ltb (y % 100) 80 ≡ t → cond t (2000 + y % 100) (1900 + y % 100) ≡ y
    go true e = omega (arith, ltb-true (y % 100) 80 e)
    go false e = omega (arith, ltb-false (y % 100) 80 e)

mapped : (o : Option ℕ) (y : ℕ) → Under 100 o → option_map full_year o ≡ Some y → o ≡ Some (y % 100)
mapped None y h e = nothing y e
mapped (Some yy) y h e = let p : full_year yy ≡ y = cc in ap Some (sym (year-last yy h) ∙ ap (λ (n : ℕ). n % 100) p)

-- A field that RMC reads as a date is the text of that date, which exists.
pub six-text : (f : List ℕ) (d m y : ℕ) → date_six f ≡ the_date d m y
    → (is_date d m y ≡ true) × (f ≡ print_fixed 2 d ++ (print_fixed 2 m ++ print_fixed 2 (y % 100)))
unfolding date_six
six-text f d m y e =
    let t = pick_first (eqb (length f) 6) 1 _ d m y (pick_second (eqb (length f) 0) 0 _ d m y e).1 in
    let p = parts 1 1 1 (pair_at 0 f) (pair_at 2 f) (option_map full_year (pair_at 4 f)) d m y t.1 in
    let n : length f ≤ 6 = omega (arith, eqb-true (length f) 6 t.0) in (
      p.1.1.1,
      pair-cut 0 f d p.0
          ∙ ap (λ (l : List ℕ). print_fixed 2 d ++ l) (pair-cut 2 f m p.1.0
          ∙ ap (λ (l : List ℕ). print_fixed 2 m ++ l) (pair-cut 4 f (y % 100) (mapped (pair_at 4 f) y (pair_lt 4 f _ refl) p.1.1.0)
          ∙ rw (drop_of_length-le f n, append-nil))),
    )

module _ (d m y : ℕ) where
  abbrev bytes : List ℕ
  bytes = print_fixed 2 d ++ (print_fixed 2 m ++ print_fixed 2 (y % 100))

  at-0 : d < 100 → pair_at 0 bytes ≡ Some d
  unfolding pair_at print_fixed
  at-0 k = fixed-rt 2 d (lit≤ tt) k

  at-2 : m < 100 → pair_at 2 bytes ≡ Some m
  unfolding pair_at print_fixed
  at-2 k = fixed-rt 2 m (lit≤ tt) k

  at-4 : y % 100 < 100 → pair_at 4 bytes ≡ Some (y % 100)
  unfolding pair_at print_fixed
  at-4 k = fixed-rt 2 (y % 100) (lit≤ tt) k

  shape : length bytes ≡ 6
  unfolding print_fixed
  shape = refl

  -- The text of a date that exists is read as that date.
  pub text-six : is_date d m y ≡ true → date_six bytes ≡ the_date d m y
  unfolding date_six date_at
  text-six e =
      let r = date-ranges d m y e in
      rw (shape, at-0 (omega arith), at-2 (omega arith), at-4 (omega arith), year-again y r.year-from r.year-to, e)

  -- The same in three fields.
  pub text-three : is_date d m y ≡ true → date_three (print_fixed 2 d) (print_fixed 2 m) (print_fixed 4 y) ≡ the_date d m y
  unfolding date_three date_at
  text-three e =
      let r = date-ranges d m y e in
      rw (length-fixed 2 d, fixed-rt 2 d (lit≤ tt) (omega arith), fixed-rt 2 m (lit≤ tt) (omega arith))
      (rw (fixed-rt 4 y (lit≤ tt) (omega arith), within-yes 1 31 d r.day-from r.day-to)
      (rw (within-yes 1 12 m r.month-from r.month-to, e)))

-- Three fields that ZDA reads as a date are the texts of its parts, and it exists.
pub three-text : (a b c : List ℕ) (d m y : ℕ) → date_three a b c ≡ the_date d m y
    → (is_date d m y ≡ true) × ((a ≡ print_fixed 2 d) × ((b ≡ print_fixed 2 m) × (c ≡ print_fixed 4 y)))
unfolding date_three
three-text a b c d m y e =
    let t = pick_second (eqb (length a) 0) (cond (eqb (length b) 0) (cond (eqb (length c) 0) 0 3) 2) _ d m y e in
    let p = parts 1 2 3 (within_of 1 31 (digits_of 2 2 a)) (within_of 1 12 (digits_of 2 2 b)) (digits_of 4 4 c) d m y t.1 in (
      p.1.1.1,
      (
        (fixed-are 2 a d (within-range 1 31 (digits_of 2 2 a) d p.0).0).0,
        ((fixed-are 2 b m (within-range 1 12 (digits_of 2 2 b) m p.1.0).0).0, (fixed-are 4 c y p.1.1.0).0),
      ),
    )
