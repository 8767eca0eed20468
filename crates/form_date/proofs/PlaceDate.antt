-- The place of a 5 in a date: in one field an empty one completes it; in three, the day by a month and a year that have it. The day that no
-- year has is the exception.
use Prim.Native.Nat.{◌<◌, ◌≤◌, suc, zero, ℕ}
use mathlib.Core.Bool.{◌&&◌, Bool, cond, false, not, true}
use mathlib.Core.List.{[], ◌∷◌, List}
use Rattle.std.specs.Prelude.{None, Option, option_map, Some}
use mathlib.Core.Path.{◌∙◌, ◌≡◌, ap, refl, sym}
use native.Mathlib.Omega.{arith}
use lib.Dec.{eqb, leb, lit<, lit≤}
use lib.ListN.{length}
use borrow.Author.Tests.{le-leb, ne_eqb}
use Rattle.digits.specs.Decimal.{digits_of, print_fixed}
use Rattle.digits.specs.Pairs.{pair_at}
use Rattle.digits.specs.Pick.{pick}
use Rattle.digits.proofs.DecimalLaws.{fixed-rt, length-fixed}
use Rattle.form.specs.Got.{within_of}
use Rattle.form.proofs.Clean.{Clean, clean-fixed}
use Rattle.form.proofs.PlaceLaws.{Agree, Completed, named, prefix-single, PrefixForm, PrefixFormBut}
use Rattle.form.proofs.PlaceSeveral.{empty, prefix-several, put-from, unread}
use Rattle.form.proofs.RangeLaws.{within-range, within-yes}
use Rattle.form_date.specs.Calendar.{days_in, is_date, leap_year}
use Rattle.form_date.specs.Dates.{date_at, date_six, date_three, full_year, no_date, the_date}
use Rattle.form_date.specs.Forms.{day_month_year, ddmmyy}
use Rattle.form_date.specs.declared.dates.GotDate.{GotDate}

-- A date in one field.
six-most : (f : List ℕ) → (date_six f).wrong ≤ 1
unfolding date_six date_at
six-most f = go (eqb (length f) 0) (eqb (length f) 6) (pair_at 0 f) (pair_at 2 f) (option_map full_year (pair_at 4 f))
  where
    real : (t : Bool) (d m y : ℕ) → (pick t (the_date d m y) (no_date 1)).wrong ≤ 1
    real true d m y = lit≤ tt
    real false d m y = lit≤ tt

    go : (s t : Bool) (d m y : Option ℕ) → (pick s (no_date 0) (pick t (date_at 1 1 1 d m y) (no_date 1))).wrong ≤ 1
    go true t d m y = lit≤ tt
    go false false d m y = lit≤ tt
    go false true None m y = lit≤ tt
    go false true (Some d) None y = lit≤ tt
    go false true (Some d) (Some m) None = lit≤ tt
    go false true (Some d) (Some m) (Some y) = real (is_date d m y) d m y

six-empty : (date_six []).wrong ≡ 0
unfolding date_six
six-empty = refl

pub prefix-ddmmyy : PrefixForm ddmmyy
prefix-ddmmyy = prefix-single date_six six-most [] tt six-empty

abbrev pub day_of : List ℕ → Option ℕ
day_of f = within_of 1 31 (digits_of 2 2 f)

abbrev pub month_of : List ℕ → Option ℕ
month_of f = within_of 1 12 (digits_of 2 2 f)

-- Some year has that day of that month: 2000, which is a leap year.
abbrev pub usual_date : (ℕ → List ℕ) → Type 0
usual_date field = (d m : ℕ) → day_of (field 1) ≡ Some d → month_of (field 2) ≡ Some m → is_date d m 2000 ≡ true

-- Where the second field is wrong: by whether the day and the month are empty, and what they are read as.
abbrev second : Bool → Bool → Option ℕ → Option ℕ → Bool
second true t d m = not t
second false t None m = false
second false t (Some d) None = true
second false t (Some d) (Some m) = false

-- What three fields read as: whether the first is wrong, and whether the second is.
record Dated (g : GotDate) (first next : Bool) : Type 0 where
  is-first : eqb g.wrong 1 ≡ first
  is-second : eqb g.wrong 2 ≡ next
  most : g.wrong ≤ 3

-- By whether each is empty, and what it is read as.
abbrev dated : Bool → Bool → Bool → Option ℕ → Option ℕ → Option ℕ → GotDate
dated s t u a b c = pick s (no_date (cond t (cond u 0 3) 2)) (date_at 1 2 3 a b c)

-- The fields after it do not change whether the first, or the second, is wrong.
date-is : (d m y : List ℕ) → Dated (date_three d m y) (unread (empty d) (day_of d)) (second (empty d) (empty m) (day_of d) (month_of m))
unfolding date_three date_at
date-is d m y = go (empty d) (empty m) (empty y) (day_of d) (month_of m) (digits_of 4 4 y)
  where
    real : (t : Bool) (a b c : ℕ) → Dated (pick t (the_date a b c) (no_date 3)) false false
    real true a b c = record { is-first = refl; is-second = refl; most = lit≤ tt }
    real false a b c = record { is-first = refl; is-second = refl; most = lit≤ tt }

    go : (s t u : Bool) (a b c : Option ℕ) → Dated (dated s t u a b c) (unread s a) (second s t a b)
    go true true true a b c = record { is-first = refl; is-second = refl; most = lit≤ tt }
    go true true false a b c = record { is-first = refl; is-second = refl; most = lit≤ tt }
    go true false u a b c = record { is-first = refl; is-second = refl; most = lit≤ tt }
    go false t u None b c = record { is-first = refl; is-second = refl; most = lit≤ tt }
    go false t u (Some a) None c = record { is-first = refl; is-second = refl; most = lit≤ tt }
    go false t u (Some a) (Some b) None = record { is-first = refl; is-second = refl; most = lit≤ tt }
    go false t u (Some a) (Some b) (Some c) = real (is_date a b c) a b c

-- January of 2000 has every day that was read; a date of 2000 is one.
january : (d : ℕ) → 1 ≤ d → d ≤ 31 → is_date d 1 2000 ≡ true
unfolding is_date days_in
january d a b = rw (le-leb 1 d a, le-leb d 31 b)

two_digits : (lo hi v : ℕ) → v < 100 → lo ≤ v → v ≤ hi → within_of lo hi (digits_of 2 2 (print_fixed 2 v)) ≡ Some v
two_digits lo hi v h a b = ap (within_of lo hi) (fixed-rt 2 v (lit≤ tt) h) ∙ within-yes lo hi v a b

the-year : digits_of 4 4 (print_fixed 4 2000) ≡ Some 2000
the-year = fixed-rt 4 2000 (lit≤ tt) (lit< tt)

-- A month and a year for a day: January 2000, or none.
module _ (d : List ℕ) where
  abbrev for_day : ℕ → ℕ → List ℕ
  for_day w v = pick (empty d) [] (print_fixed w v)

  clean-for : (w v : ℕ) → Clean (for_day w v)
  clean-for w v = go (empty d)
    where
      go : (t : Bool) → Clean (pick t [] (print_fixed w v))
      go true = tt
      go false = clean-fixed w v

  year-good : (m : List ℕ) → unread (empty d) (day_of d) ≡ false → second (empty d) (empty m) (day_of d) (month_of m) ≡ false
      → ((a b : ℕ) → day_of d ≡ Some a → month_of m ≡ Some b → is_date a b 2000 ≡ true) → (date_three d m (for_day 4 2000)).wrong ≡ 0
  unfolding date_three date_at
  year-good m h k u = go (empty d) (empty m) (day_of d) (month_of m) h k refl refl
    where
      go : (s t : Bool) (a b : Option ℕ) → unread s a ≡ false → second s t a b ≡ false → day_of d ≡ a → month_of m ≡ b
          → (dated s t (empty (pick s [] (print_fixed 4 2000))) a b (digits_of 4 4 (pick s [] (print_fixed 4 2000)))).wrong ≡ 0
      go true true a b p q e i = refl
      go true false a b p q e i = ap (λ (t : Bool). pick t 2 0) q
      go false t None b p q e i = ap (λ (t : Bool). pick t 1 0) p
      go false t (Some a) None p q e i = ap (λ (t : Bool). pick t 2 0) q
      go false t (Some a) (Some b) p q e i = rw (the-year, u a b e i)

  month-good : unread (empty d) (day_of d) ≡ false → (date_three d (for_day 2 1) (for_day 4 2000)).wrong ≡ 0
  unfolding date_three date_at
  month-good h = go (empty d) (day_of d) h refl
    where
      go : (s : Bool) (a : Option ℕ) → unread s a ≡ false → day_of d ≡ a
          → (dated s (empty (pick s [] (print_fixed 2 1))) (empty (pick s [] (print_fixed 4 2000))) a (month_of (pick s [] (print_fixed 2 1)))
          (digits_of 4 4 (pick s [] (print_fixed 4 2000)))).wrong ≡ 0
      go true a q e = refl
      go false None q e = ap (λ (t : Bool). pick t 1 0) q
      go false (Some a) q e =
          let i = within-range 1 31 (digits_of 2 2 d) a e in
          rw (two_digits 1 12 1 (lit< tt) (lit≤ tt) (lit≤ tt), the-year, january a i.1 i.2)

date-none : (date_three [] [] []).wrong ≡ 0
unfolding date_three
date-none = refl

date-own : (field other : ℕ → List ℕ) → Agree field other suc 3 → day_month_year.got other ≡ day_month_year.got field
date-own field other s = rw (s 0 (lit< tt), s 1 (lit< tt), s 2 (lit< tt))

date-decided : (field other : ℕ → List ℕ) (k : ℕ) → 0 < k → k < 3 → Agree field other suc k
    → eqb (named day_month_year other) k ≡ eqb (named day_month_year field) k
date-decided field other zero h i s = let z : ⊥ = omega arith in absurd z
date-decided field other (suc zero) h i s =
    (date-is (other 1) (other 2) (other 3)).is-first
    ∙ ap (λ (f : List ℕ). unread (empty f) (day_of f)) (s 0 h)
    ∙ sym (date-is (field 1) (field 2) (field 3)).is-first
date-decided field other (suc (suc zero)) h i s =
    (date-is (other 1) (other 2) (other 3)).is-second
    ∙ ap (λ (f : List ℕ). second (empty f) (empty (other 2)) (day_of f) (month_of (other 2))) (s 0 h)
    ∙ ap (λ (f : List ℕ). second (empty (field 1)) (empty f) (day_of (field 1)) (month_of f)) (s 1 (lit< tt))
    ∙ sym (date-is (field 1) (field 2) (field 3)).is-second
date-decided field other (suc (suc (suc k))) h i s = let z : ⊥ = omega arith in absurd z

date-mended : (field : ℕ → List ℕ) (k : ℕ) → 0 < k → k ≤ 3 → named day_month_year field ≡ k → usual_date field
    → Completed (named day_month_year) field suc 3 k
date-mended field zero h i e u = let z : ⊥ = omega arith in absurd z
date-mended field (suc zero) h i e u = put-from 1 [] tt date-none
date-mended field (suc (suc zero)) h i e u =
    let d = field 1 in
    let b : eqb (named day_month_year field) 1 ≡ false = rw e in
    put-from 2 (for_day d 2 1 ∷ for_day d 4 2000 ∷ []) (clean-for d 2 1, (clean-for d 4 2000, tt))
    (month-good d (sym (date-is d (field 2) (field 3)).is-first ∙ b))
date-mended field (suc (suc (suc zero))) h i e u =
    let d = field 1 in
    let is = date-is d (field 2) (field 3) in
    let b : eqb (named day_month_year field) 1 ≡ false = rw e in
    let c : eqb (named day_month_year field) 2 ≡ false = rw e in
    put-from 3 (for_day d 4 2000 ∷ []) (clean-for d 4 2000, tt)
    (year-good d (field 2) (sym is.is-first ∙ b) (sym is.is-second ∙ c) u)
date-mended field (suc (suc (suc (suc k)))) h i e u = let z : ⊥ = omega arith in absurd z

pub prefix-day_month_year : PrefixFormBut day_month_year usual_date
prefix-day_month_year =
    prefix-several day_month_year date-own (λ field. (date-is (field 1) (field 2) (field 3)).most) date-decided date-mended
    (λ field. put-from 1 [] tt date-none)

-- The exception is real: no year completes 31 and 02.
february : (c : ℕ) → is_date 31 2 c ≡ false
unfolding is_date days_in
february c = go (leb 1980 c && leb c 2079) (leap_year c)
  where
    go : (s t : Bool) → (s && (leb 1 31 && leb 31 (cond t 29 28))) ≡ false
    go true true = refl
    go true false = refl
    go false t = refl

some-digits : (v : ℕ) → empty (print_fixed 2 v) ≡ false
some-digits v = ne_eqb (length (print_fixed 2 v)) 0 (λ e. omega (arith, length-fixed 2 v))

pub no-such-day : (y : List ℕ) → (date_three (print_fixed 2 31) (print_fixed 2 2) y).wrong ≡ 3
unfolding date_three date_at
no-such-day y =
    rw (
      some-digits 31,
      two_digits 1 31 31 (lit< tt) (lit≤ tt) (lit≤ tt),
      two_digits 1 12 2 (lit< tt) (lit≤ tt) (lit≤ tt),
    ) (go (digits_of 4 4 y))
  where
    go : (c : Option ℕ) → (date_at 1 2 3 (Some 31) (Some 2) c).wrong ≡ 3
    go None = refl
    go (Some c) = rw (february c)
