-- The entry of a satellite, four fields read together: it is like the row of its four forms, and so has their laws.
use Prim.Native.Nat.{◌+◌, ◌≤◌, ℕ}
use mathlib.Core.Bool.{◌&&◌, Bool, cond, false, not, true}
use mathlib.Core.List.{List}
use mathlib.Core.Path.{◌∙◌, ◌≡◌, ap, refl, sym}
use native.Mathlib.Omega.{arith}
use lib.Dec.{eqb, leb, lit<, lit≤}
use borrow.Author.Tests.{eqb-false, eqb-true}
use Rattle.digits.specs.Pick.{pick}
use Rattle.digits.proofs.Bools.{and_left, and_right, true-false}
use Rattle.form.specs.Row.{◌▷◌, made, one, Row}
use Rattle.form.specs.Values.{is_missing, no_maybe, outside, range_wrong}
use Rattle.form.specs.Wrong.{near_of}
use Rattle.form.specs.declared.Maybe.{Maybe}
use Rattle.form.specs.declared.got.Got.{Got}
use Rattle.form.proofs.Laws.{◌⊵◌, lawful-only_if, LawfulForm, Tight, tight-made, tight-one}
use Rattle.form.proofs.LikeRow.{lawful-like, Like, prefix-like, same-like}
use Rattle.form.proofs.PlaceForms.{got-most, maybe-most}
use Rattle.form.proofs.PlaceLaws.{prefix-made, prefix-one, prefix-only_if, PrefixForm}
use Rattle.form.proofs.PlaceRows.{◌⊩◌}
use Rattle.form.proofs.SameLaws.{◌⊜◌, keeps-one, same-made, same-only_if, SameForm}
use Rattle.form.proofs.Values.{zero_one}
use Rattle.form_number.specs.Fixed.{exact_form, fixed_form, fixed_of}
use Rattle.form_number.proofs.Laws.{lawful-exact, lawful-fixed, short-exact, short-fixed}
use Rattle.form_number.proofs.Place.{prefix-exact, prefix-fixed}
use Rattle.form_number.proofs.Same.{same-exact, same-fixed}
use Rattle.kind_gsv.specs.Blank.{blank_entry, is_blank}
use Rattle.kind_gsv.specs.declared.Entry.{Entry}
use Rattle.kind_gsv.specs.Row.{azimuth, elevation, entry, entry_at, entry_from, entry_if, first_of, no_entry, satellite_number, signal}
use Rattle.kind_gsv.specs.declared.GotEntry.{GotEntry}

-- The row of an entry's forms.
abbrev Four : Type 0 → Type 0 → Type 0
Four A B = A × (B × (B × B))

abbrev four_row : Row (Four Got Got) (Four ℕ Maybe)
four_row = one satellite_number ▷ one elevation ▷ one azimuth ▷ one signal

abbrev entry_row : Row (Four Got Got) Entry
entry_row =
    made (λ v. record { number = v.0; elevation = v.1.0; azimuth = v.1.1.0; signal = v.1.1.1 })
    (λ e. (e.number, (e.elevation, (e.azimuth, e.signal)))) four_row

-- The first of four that is wrong by one, counted together.
module _ (a b c d : ℕ) (p : a ≤ 1) (q : b ≤ 1) (r : c ≤ 1) (s : d ≤ 1) where
  first-near : first_of a b c d ≡ near_of 0 a (near_of 1 b (near_of 2 c (near_of 3 d 0)))
  unfolding first_of near_of
  first-near = go (eqb a 0) (eqb b 0) (eqb c 0) (eqb d 0) refl refl refl refl
    where
      go : (t u v w : Bool) → eqb a 0 ≡ t → eqb b 0 ≡ u → eqb c 0 ≡ v → eqb d 0 ≡ w
          → cond t (cond u (cond v (cond w 0 4) 3) 2) 1 ≡ cond t (cond u (cond v (cond w 0 (3 + d)) (2 + c)) (1 + b)) (0 + a)
      go false u v w e f g h = let n = eqb-false a 0 e in omega (arith, n, p)
      go true false v w e f g h = let n = eqb-false b 0 f in omega (arith, n, q)
      go true true false w e f g h = let n = eqb-false c 0 g in omega (arith, n, r)
      go true true true false e f g h = let n = eqb-false d 0 h in omega (arith, n, s)
      go true true true true e f g h = refl

outside-most : (lo hi v : ℕ) → outside lo hi v ≤ 1
unfolding outside
outside-most lo hi v = go (leb lo v && leb v hi)
  where
    go : (t : Bool) → cond t 0 1 ≤ 1
    go true = lit≤ tt
    go false = lit≤ tt

range-most : (lo hi : ℕ) (there : Bool) (v : ℕ) → range_wrong lo hi there v ≤ 1
unfolding range_wrong
range-most lo hi true v = outside-most lo hi v
range-most lo hi false v = outside-most 0 0 v

-- Four fields of which none is wrong, and back.
pub first-none : (a b c d : ℕ) → first_of a b c d ≡ 0 → (a ≡ 0) × ((b ≡ 0) × ((c ≡ 0) × (d ≡ 0)))
unfolding first_of
first-none a b c d e = go (eqb a 0) (eqb b 0) (eqb c 0) (eqb d 0) refl refl refl refl e
  where
    go : (p q r s : Bool) → eqb a 0 ≡ p → eqb b 0 ≡ q → eqb c 0 ≡ r → eqb d 0 ≡ s
        → ◌≡◌ {A = ℕ} (cond p (cond q (cond r (cond s 0 4) 3) 2) 1) 0
        → (a ≡ 0) × ((b ≡ 0) × ((c ≡ 0) × (d ≡ 0)))
    go true true true true p q r s i = (eqb-true a 0 p, (eqb-true b 0 q, (eqb-true c 0 r, eqb-true d 0 s)))
    go true true true false p q r s i = let z : ⊥ = omega (arith, i) in absurd z
    go true true false t p q r s i = let z : ⊥ = omega (arith, i) in absurd z
    go true false u t p q r s i = let z : ⊥ = omega (arith, i) in absurd z
    go false v u t p q r s i = let z : ⊥ = omega (arith, i) in absurd z

pub none_first : (a b c d : ℕ) → a ≡ 0 → b ≡ 0 → c ≡ 0 → d ≡ 0 → first_of a b c d ≡ 0
unfolding first_of
none_first a b c d p q r s = rw (p, q, r, s)

-- What an entry holds.
module _ (n e a s : Got) where
  wrong-is : (w : ℕ) → (entry_at w n e a s).wrong ≡ w
  unfolding entry_at
  wrong-is w = go (eqb w 0) refl
    where
      go : (t : Bool) → eqb w 0 ≡ t → (pick t (record { wrong = 0; entry = entry_row.value (n, (e, (a, s))) }) (no_entry w)).wrong ≡ w
      go true q = sym (eqb-true w 0 q)
      go false q = refl

  entry-is : (w : ℕ) → w ≡ 0 → (entry_at w n e a s).entry ≡ entry_row.value (n, (e, (a, s)))
  unfolding entry_at
  entry-is w q = rw q

abbrev fold : Four Got Got → GotEntry
fold g = entry_from g.0 g.1.0 g.1.1.0 g.1.1.1

module _ (field : ℕ → List ℕ) where
  abbrev n : Got
  n = exact_form 2 1 99 (field 1)

  abbrev e : Got
  e = fixed_form 2 0 90 (field 2)

  abbrev a : Got
  a = fixed_form 3 0 359 (field 3)

  abbrev s : Got
  s = fixed_form 2 0 99 (field 4)

  first-is : first_of n.wrong e.wrong a.wrong s.wrong ≡ entry_row.wrong (n, (e, (a, s))) 0 0
  first-is =
      first-near n.wrong e.wrong a.wrong s.wrong (got-most (fixed_of 2 1 99 (field 1))) (maybe-most (field 2) _)
      (maybe-most (field 3) _) (maybe-most (field 4) _)

  entry-names : (entry_from n e a s).wrong ≡ entry_row.wrong (n, (e, (a, s))) 0 0
  unfolding entry_from
  entry-names = wrong-is n e a s _ ∙ first-is

  entry-holds : (entry_from n e a s).wrong ≡ 0 → (entry_from n e a s).entry ≡ entry_row.value (n, (e, (a, s)))
  unfolding entry_from
  entry-holds q = entry-is n e a s _ (sym (wrong-is n e a s _) ∙ q)

entry-faults : (v : Entry) → entry.fault v ≡ entry_row.fault v 0 0
entry-faults v =
    let e = v.elevation in let a = v.azimuth in let s = v.signal in
    first-near _ _ _ _ (outside-most 1 99 v.number) (range-most 0 90 e.there e.value) (range-most 0 359 a.there a.value)
    (range-most 0 99 s.there s.value)

entry-like : Like entry entry_row fold
entry-like =
    record {
      wide = refl;
      large = lit≤ tt;
      reads = λ field. refl;
      names = entry-names;
      holds = entry-holds;
      faults = entry-faults;
      texts = λ v. refl;
    }

tight-entry : Tight entry_row
tight-entry =
    tight-made _ _ four_row (λ v. refl) (λ e. refl) (tight-one (lawful-exact 2 1 99 (lit≤ tt) (lit≤ tt) (lit< tt)) (short-exact 2 1 99)
    ⊵ tight-one (lawful-fixed 2 0 90 (lit≤ tt) (lit≤ tt) (lit< tt)) (short-fixed 2 0 90)
    ⊵ tight-one (lawful-fixed 3 0 359 (lit≤ tt) (lit≤ tt) (lit< tt)) (short-fixed 3 0 359)
    ⊵ tight-one (lawful-fixed 2 0 99 (lit≤ tt) (lit≤ tt) (lit< tt)) (short-fixed 2 0 99))

pub lawful-entry : LawfulForm entry
lawful-entry = lawful-like entry-like tight-entry.0

pub prefix-entry : PrefixForm entry
prefix-entry =
    prefix-like entry-like (prefix-made _ _ four_row (λ v. refl) (prefix-one (prefix-exact 2 1 99 (lit≤ tt) (lit< tt) (lit≤ tt))
    ⊩ prefix-one (prefix-fixed 2 0 90)
    ⊩ prefix-one (prefix-fixed 3 0 359)
    ⊩ prefix-one (prefix-fixed 2 0 99)))

pub same-entry : SameForm entry
same-entry =
    same-like entry-like (same-made _ _ four_row (λ v. refl)
    (keeps-one (lawful-exact 2 1 99 (lit≤ tt) (lit≤ tt) (lit< tt)) (same-exact 2 1 99)
    ⊜ keeps-one (lawful-fixed 2 0 90 (lit≤ tt) (lit≤ tt) (lit< tt)) (same-fixed 2 0 90)
    ⊜ keeps-one (lawful-fixed 3 0 359 (lit≤ tt) (lit≤ tt) (lit< tt)) (same-fixed 3 0 359)
    ⊜ keeps-one (lawful-fixed 2 0 99 (lit≤ tt) (lit≤ tt) (lit< tt)) (same-fixed 2 0 99)).1)

-- A blank entry is the blank entry.
missing-is : (m : Maybe) → is_missing m ≡ true → m ≡ no_maybe
missing-is m e = go m.there refl
  where
    v : m.value ≡ 0
    v = eqb-true m.value 0 (and_right (not m.there) _ e)

    go : (t : Bool) → m.there ≡ t → m ≡ no_maybe
    go true q = absurd (true-false (and_left (not m.there) (eqb m.value 0) e) (ap not q))
    go false q = ap (λ (t : Bool). record { there = t; value = m.value }) q ∙ ap (λ (x : ℕ). record { there = false; value = x }) v

pub blank-is : (e : Entry) → is_blank e ≡ true → e ≡ blank_entry
unfolding is_blank
blank-is e b =
    let n = eqb-true e.number 0 (and_left _ _ b) in
    let b1 = and_right (eqb e.number 0) _ b in
    let b2 = and_right (is_missing e.elevation) _ b1 in
    let x = missing-is e.elevation (and_left _ _ b1) in
    let y = missing-is e.azimuth (and_left _ _ b2) in
    let w = missing-is e.signal (and_right (is_missing e.azimuth) _ b2) in
    sym (made_of e.number e.elevation e.azimuth e.signal n x y w)
  where
    made_of : (n : ℕ) (a b c : Maybe) → n ≡ 0 → a ≡ no_maybe → b ≡ no_maybe → c ≡ no_maybe
        → blank_entry ≡ record { number = n; elevation = a; azimuth = b; signal = c }
    made_of n a b c p q s u = rw (p, q, s, u)

blank-good : ◌≡◌ {A = ℕ} (cond (is_blank blank_entry) 0 1) 0
unfolding is_blank
blank-good = refl

-- Where it is used; an entry that is not used is blank.
pub lawful-entry_if : (on : Bool) → LawfulForm (entry_if on)
lawful-entry_if =
    lawful-only_if (no_entry 0) (λ e. cond (is_blank e) 0 1) entry refl (λ e q. sym (blank-is e (zero_one (is_blank e) q))) blank-good
    lawful-entry

pub same-entry_if : (on : Bool) → SameForm (entry_if on)
same-entry_if = same-only_if (no_entry 0) (λ e. cond (is_blank e) 0 1) entry same-entry

pub prefix-entry_if : (on : Bool) → PrefixForm (entry_if on)
prefix-entry_if = prefix-only_if (no_entry 0) (λ e. cond (is_blank e) 0 1) entry refl prefix-entry
