-- All or none, the hard direction: a position, a date of three fields and a zone that are not wrong and are missing have all their fields
-- empty. By the cases of each definition: a field that holds something is wrong, or its value is there.
use Prim.Native.Nat.{◌+◌, ◌*◌, ℕ}
use mathlib.Core.Path.{◌∙◌, ◌≡◌, refl, sym}
use mathlib.Core.Bool.{◌&&◌, ◌||◌, Bool, cond, false, not, true, true≢false}
use mathlib.Core.List.{[], ◌∷◌, List}
use Rattle.std.specs.Prelude.{None, Option, Some}
use Rattle.digits.specs.Bind.{bind}
use native.Mathlib.Omega.{arith}
use borrow.Author.Tests.{eqb-false, eqb-true}
use lib.Dec.{eqb}
use lib.IntN.{pos, ℤ}
use lib.ListN.{length}
use Rattle.digits.specs.Ascii.{ascii}
use Rattle.digits.specs.Decimal.{digits_of}
use Rattle.digits.specs.Pick.{pick}
use Rattle.digits.specs.Same.{same}
use Rattle.digits.specs.Sign.{signed}
use Rattle.form.specs.Got.{got_int_of, missing_int, within_of}
use Rattle.form.specs.declared.got.GotInt.{GotInt}
use Rattle.form_date.specs.Calendar.{day_most, is_date, month_most}
use Rattle.form_date.specs.Dates.{date_at, date_three, no_date, the_date}
use Rattle.form_date.specs.Zone.{bare_of, got_zone_at, hours_most, minus, minutes_most, zone_at, zone_of, zone_two}
use Rattle.form_date.specs.declared.dates.GotDate.{GotDate}
use Rattle.form_position.specs.Angle.{both_of, latitude_of, lettered_of, longitude_of, position_form, refused_at, sided_of, wrong_int}
use Rattle.form_position.specs.declared.Position.{Position}

-- A field of no bytes is empty.
empty : (f : List ℕ) → eqb (length f) 0 ≡ true → f ≡ []
empty [] e = refl
empty (b ∷ f) e = let z = eqb-true (length (b ∷ f)) 0 e in let i : ⊥ = omega (arith, z) in absurd i

-- Half a position.
lettered-there : (plus minus u : List ℕ) (o : Option ℕ) → (lettered_of plus minus u o).there ≡ true
unfolding lettered_of
lettered-there plus minus u None = refl
lettered-there plus minus u (Some v) = go (same u plus || same u minus)
  where
    go : (b : Bool) → (pick b (got_int_of (Some (signed (same u minus) v))) (wrong_int 2 true)).there ≡ true
    go true = refl
    go false = refl

sided-empty : (plus minus f u : List ℕ) (o : Option ℕ) → (sided_of plus minus f u o).wrong ≡ 0 → (sided_of plus minus f u o).there ≡ false
    → (f ≡ []) × (u ≡ [])
unfolding sided_of
sided-empty plus minus f u o = go (eqb (length f) 0) (eqb (length u) 0) refl refl
  where
    answer : Bool → Bool → GotInt
    answer a b = pick a (pick b missing_int (wrong_int 2 false)) (lettered_of plus minus u o)

    go : (a b : Bool) → eqb (length f) 0 ≡ a → eqb (length u) 0 ≡ b → (answer a b).wrong ≡ 0 → (answer a b).there ≡ false
        → (f ≡ []) × (u ≡ [])
    go true true p q w t = (empty f p, empty u q)
    go true false p q w t = let i : ⊥ = omega (arith, w) in absurd i
    go false b p q w t = absurd (true≢false (sym (lettered-there plus minus u o) ∙ t))

-- Two halves that are not wrong and missing are not wrong and missing each.
both-missing : (a o : GotInt) → (both_of a o).wrong ≡ 0 → (both_of a o).there ≡ false
    → ((a.wrong ≡ 0) × (a.there ≡ false)) × ((o.wrong ≡ 0) × (o.there ≡ false))
unfolding both_of
both-missing a o = go (eqb a.wrong 0) a.there o.there (eqb o.wrong 1) (eqb o.wrong 0) refl refl refl refl
  where
    answer : Bool → Bool → Bool → Bool → Bool → Position
    answer w s t one right =
        pick w (pick ((s && not t) || ((not s && t) || one)) (refused_at 3)
        (pick right (record { wrong = 0; there = s; lat = a.value; lon = o.value }) (refused_at 4))) (refused_at a.wrong)

    go : (w s t one right : Bool) → eqb a.wrong 0 ≡ w → a.there ≡ s → o.there ≡ t → eqb o.wrong 0 ≡ right
        → (answer w s t one right).wrong ≡ 0 → (answer w s t one right).there ≡ false
        → ((a.wrong ≡ 0) × (a.there ≡ false)) × ((o.wrong ≡ 0) × (o.there ≡ false))
    go false s t one right p q r u w h = absurd (eqb-false a.wrong 0 p w)
    go true true true true right p q r u w h = let i : ⊥ = omega (arith, w) in absurd i
    go true true true false true p q r u w h = absurd (true≢false h)
    go true true true false false p q r u w h = let i : ⊥ = omega (arith, w) in absurd i
    go true true false one right p q r u w h = let i : ⊥ = omega (arith, w) in absurd i
    go true false true one right p q r u w h = let i : ⊥ = omega (arith, w) in absurd i
    go true false false true right p q r u w h = let i : ⊥ = omega (arith, w) in absurd i
    go true false false false true p q r u w h = ((eqb-true a.wrong 0 p, q), (eqb-true o.wrong 0 u, r))
    go true false false false false p q r u w h = let i : ⊥ = omega (arith, w) in absurd i

-- A position: all four.
pub position-none : (lat ns lon ew : List ℕ) → (position_form lat ns lon ew).wrong ≡ 0 → (position_form lat ns lon ew).there ≡ false
    → ((lat ≡ []) × (ns ≡ [])) × ((lon ≡ []) × (ew ≡ []))
unfolding position_form
position-none lat ns lon ew w t =
    let h = both-missing _ _ w t in (
      sided-empty (ascii "N") (ascii "S") lat ns (latitude_of lat) h.0.0 h.0.1,
      sided-empty (ascii "E") (ascii "W") lon ew (longitude_of lon) h.1.0 h.1.1,
    )

-- A date of three fields: all three.
date-there : (a b c : ℕ) (od om oy : Option ℕ) → (a ≡ 0 → ⊥) → (b ≡ 0 → ⊥) → (c ≡ 0 → ⊥) → (date_at a b c od om oy).wrong ≡ 0
    → (date_at a b c od om oy).there ≡ true
unfolding date_at
date-there a b c None om oy x y z w = absurd (x w)
date-there a b c (Some d) None oy x y z w = absurd (y w)
date-there a b c (Some d) (Some m) None x y z w = absurd (z w)
date-there a b c (Some d) (Some m) (Some n) x y z w = go (is_date d m n) w
  where
    go : (t : Bool) → (pick t (the_date d m n) (no_date c)).wrong ≡ 0 → (pick t (the_date d m n) (no_date c)).there ≡ true
    go true i = refl
    go false i = absurd (z i)

pub date-none : (d m y : List ℕ) → (date_three d m y).wrong ≡ 0 → (date_three d m y).there ≡ false → (d ≡ []) × ((m ≡ []) × (y ≡ []))
unfolding date_three
date-none d m y = go (eqb (length d) 0) (eqb (length m) 0) (eqb (length y) 0) refl refl refl
  where
    read : GotDate
    read = date_at 1 2 3 (within_of 1 day_most (digits_of 2 2 d)) (within_of 1 month_most (digits_of 2 2 m)) (digits_of 4 4 y)

    answer : Bool → Bool → Bool → GotDate
    answer a b c = pick a (no_date (cond b (cond c 0 3) 2)) read

    go : (a b c : Bool) → eqb (length d) 0 ≡ a → eqb (length m) 0 ≡ b → eqb (length y) 0 ≡ c → (answer a b c).wrong ≡ 0
        → (answer a b c).there ≡ false → (d ≡ []) × ((m ≡ []) × (y ≡ []))
    go true true true p q r w t = (empty d p, (empty m q, empty y r))
    go true true false p q r w t = let i : ⊥ = omega (arith, w) in absurd i
    go true false c p q r w t = let i : ⊥ = omega (arith, w) in absurd i
    go false b c p q r w t =
        let there = date-there 1 2 3 _ _ _ (λ z. omega (arith, z)) (λ z. omega (arith, z)) (λ z. omega (arith, z)) w in
        absurd (true≢false (sym there ∙ t))

-- A zone of two fields: both.
zone-there : (n : ℕ) (negative : Bool) (oh om : Option ℕ) → (zone_at n negative oh om).there ≡ true
unfolding zone_at
zone-there n negative None om = refl
zone-there n negative (Some h) om = go (bind om λ m. zone_of negative (h * 60 + m))
  where
    go : (o : Option ℤ) → (got_zone_at n o).there ≡ true
    go None = refl
    go (Some z) = refl

pub zone-none : (h m : List ℕ) → (zone_two h m).wrong ≡ 0 → (zone_two h m).there ≡ false → (h ≡ []) × (m ≡ [])
unfolding zone_two
zone-none h m = go (eqb (length h) 0) (eqb (length m) 0) refl refl
  where
    answer : Bool → Bool → GotInt
    answer a b =
        pick a (pick b missing_int (record { wrong = 2; there = false; value = pos 0 }))
        (zone_at 2 (minus h) (within_of 0 hours_most (digits_of 2 2 (bare_of h))) (within_of 0 minutes_most (digits_of 2 2 m)))

    go : (a b : Bool) → eqb (length h) 0 ≡ a → eqb (length m) 0 ≡ b → (answer a b).wrong ≡ 0 → (answer a b).there ≡ false
        → (h ≡ []) × (m ≡ [])
    go true true p q w t = (empty h p, empty m q)
    go true false p q w t = let i : ⊥ = omega (arith, w) in absurd i
    go false b p q w t = absurd (true≢false (sym (zone-there 2 _ _ _) ∙ t))
