-- A value in its range is one that 32 bits hold: form by form, and so for rows of forms and the layouts of their values.
use Prim.Native.Nat.{◌%◌, ◌+◌, ◌/◌, ◌<◌, ◌≤◌, ℕ}
use mathlib.Core.Path.{◌∙◌, ◌≡◌, refl, sym}
use mathlib.Core.Bool.{◌&&◌, ◌||◌, Bool, cond, false, not, true}
use mathlib.Core.List.{List}
use native.Mathlib.Omega.{arith}
use borrow.Author.Tests.{eqb-true, le-leb, leb-true, lt-ltb}
use lib.Dec.{eqb, leb, lit<, lit≤, ltb}
use lib.IntN.{nat_abs, negsuc, pos, ℤ}
use lib.Signed.{mag}
use Rattle.form_position.specs.Angle.{latitude_most, longitude_most}
use Rattle.form_date.specs.Calendar.{days_in, is_date, leap_year}
use Rattle.form_mask.specs.Masks.{is_port_mask, port_wrong}
use Rattle.form.specs.Values.{is_missing, outside, range_wrong, signed_wrong}
use Rattle.kind_gsv.specs.Blank.{is_blank}
use Rattle.kind_gsv.specs.declared.Entry.{Entry}
use Rattle.form_date.specs.declared.Date.{Date}
use Rattle.form.specs.declared.Maybe.{Maybe}
use Rattle.form_position.specs.declared.Place.{Place}
use Rattle.form_letter.specs.Letters.{letter_wrong}
use Rattle.form_position.specs.Values.{place_wrong}
use Rattle.form_date.specs.Values.{six_wrong, three_wrong}
use Rattle.form.proofs.Clean.{Clean}
use Rattle.form.proofs.Signed.{first-zero, signed-in, signed-none}
use Rattle.form_letter.proofs.Back.{in_clean, letter-in}
use Rattle.form.specs.Row.{◌▷◌, depending, Form, made, measured, one, Row, unit_after}
use Rattle.form.proofs.Laws.{near-zero}
use Rattle.numbers.specs.Numbers.{most}
use Rattle.numbers.specs.Layout.{Layout, nothing, signed}
use Rattle.form_date.specs.Numbers.{date_layout}
use Rattle.form_position.specs.Numbers.{place_layout}
use Rattle.numbers.proofs.Layouts.{and-true}

pub both : {a b : Bool} → a ≡ true → b ≡ true → (a && b) ≡ true
both p q = rw (p, q)

-- A row without a fault has values that 32 bits hold.
pub record Fitted {G X : Type 0} (r : Row G X) : Type 0 where
  pub fits : (v : X) (n rest : ℕ) → r.fault v n rest ≡ 0 → (r.layout.held v ≡ true) × (rest ≡ 0)

pub fitted-one : {G X : Type 0} (f : Form G X) → ((v : X) → f.fault v ≡ 0 → f.layout.held v ≡ true) → Fitted (one f)
fitted-one f h = record { fits = λ v n rest e. let z = near-zero n (f.fault v) rest e in (h v z.0, z.1) }

pub fitted-depending : {K G X H Y : Type 0} (w m : ℕ) (y : Layout Y) (found : G → K) (held : X → K) (a : Row G X) (b : K → Row H Y)
    → ((k : K) (v : Y) → (b k).layout.held v ≡ y.held v) → Fitted a → ((k : K) → Fitted (b k)) → Fitted (depending w m y found held a b)
fitted-depending w m y found held a b same p q =
    record {
      fits = λ v n rest e.
          let i = p.fits v.0 n ((b (held v.0)).fault v.1 (n + a.width) rest) e in
          let j = (q (held v.0)).fits v.1 (n + a.width) rest i.1 in
          (both i.0 (sym (same (held v.0) v.1) ∙ j.0), j.1);
    }

infixr 30 ◌⊕◌
pub ◌⊕◌ : {G X H Y : Type 0} {a : Row G X} {b : Row H Y} → Fitted a → Fitted b → Fitted (a ▷ b)
◌⊕◌ {a = a} {b = b} p q =
    fitted-depending {K = Unit {0}} b.width b.most b.layout (λ g. tt) (λ v. tt) a (λ k. b) (λ k v. refl) p (λ k. q)

pub fitted-made : {G X R : Type 0} (to : X → R) (of : R → X) (a : Row G X) → Fitted a → Fitted (made to of a)
fitted-made to of a p = record { fits = λ r. p.fits (of r) }

pub fitted-measured : {G X : Type 0} (letter : ℕ) (found : G → Bool) (held : X → Bool) (a : Row G X) → Fitted a
    → Fitted (measured letter found held a)
fitted-measured letter found held a p =
    fitted-made (λ v. v.0) (λ v. (v, tt)) _
    (fitted-depending 1 2 nothing found held a (unit_after letter) (λ k v. refl) p (λ k. record { fits = λ v n rest e. (refl, e) }))

-- The forms.
outside-most : (lo hi v : ℕ) → outside lo hi v ≡ 0 → v ≤ hi
unfolding outside
outside-most lo hi v e = go (leb lo v && leb v hi) refl e
  where
    go : (b : Bool) → (leb lo v && leb v hi) ≡ b → ◌≡◌ {A = ℕ} (cond b 0 1) 0 → v ≤ hi
    go true q i = leb-true v hi (and-true (leb lo v) (leb v hi) q).1
    go false q i = let z : ⊥ = omega (arith, i) in absurd z

pub outside-held : (lo hi v : ℕ) → hi ≤ most → outside lo hi v ≡ 0 → leb v most ≡ true
outside-held lo hi v h e = le-leb v most (omega (arith, h, outside-most lo hi v e))

pub range-held : (lo hi : ℕ) (there : Bool) (v : ℕ) → hi ≤ most → range_wrong lo hi there v ≡ 0 → leb v most ≡ true
unfolding range_wrong
range-held lo hi true v h e = outside-held lo hi v h e
range-held lo hi false v h e = outside-held 0 0 v (lit≤ tt) e

size-held : (hi : ℕ) (z : ℤ) → hi < 2147483648 → nat_abs z ≤ hi → ltb (mag z) 2147483648 ≡ true
size-held hi (pos n) h i = lt-ltb n 2147483648 (omega (arith, h, i))
size-held hi (negsuc n) h i = lt-ltb n 2147483648 (omega (arith, h, i))

pub signed-held : (hi : ℕ) (there : Bool) (z : ℤ) → hi < 2147483648 → signed_wrong hi there z ≡ 0 → signed.held z ≡ true
signed-held hi true z h e = size-held hi z h (signed-in hi z e)
signed-held hi false z h e = rw (signed-none hi z e)

pub letter-held : (set : List ℕ) (v : ℕ) → Clean set → letter_wrong set v ≡ 0 → leb v most ≡ true
letter-held set v c e = le-leb v most (omega (arith, (in_clean set v c (letter-in set v e)).1))

pub place-held : (p : Place) → place_wrong p ≡ 0 → place_layout.held p ≡ true
unfolding place_wrong
place-held p e =
    let a = first-zero (signed_wrong latitude_most p.there p.lat) (λ q. omega arith) e in
    let b = first-zero (signed_wrong longitude_most p.there p.lon) (λ q. omega arith) a.1 in
    both (signed-held latitude_most p.there p.lat (lit< tt) a.0) (signed-held longitude_most p.there p.lon (lit< tt) b.0)

days-most : (month year day : ℕ) → 1 ≤ day → day ≤ days_in month year → (month ≤ 12) × (day ≤ 31)
unfolding days_in
days-most month year day a b = go (leb 1 month && leb month 12) refl b
  where
    few : ℕ
    few = cond (eqb month 2) (cond (leap_year year) 29 28) (cond (eqb month 4 || (eqb month 6 || (eqb month 9 || eqb month 11))) 30 31)

    inner : (x y z : Bool) → cond x (cond y 29 28) (cond z 30 31) ≤ 31
    inner true true z = omega arith
    inner true false z = omega arith
    inner false y true = omega arith
    inner false y false = omega arith

    go : (t : Bool) → (leb 1 month && leb month 12) ≡ t → day ≤ cond t few 0 → (month ≤ 12) × (day ≤ 31)
    go true q h =
        let i = inner (eqb month 2) (leap_year year) (eqb month 4 || (eqb month 6 || (eqb month 9 || eqb month 11))) in
        (leb-true month 12 (and-true (leb 1 month) (leb month 12) q).1, omega (arith, h, i))
    go false q h = let z : ⊥ = omega (arith, a, h) in absurd z

date-most : (d : Date) → is_date d.day d.month d.year ≡ true → date_layout.held d ≡ true
unfolding is_date
date-most d e =
    let a = and-true (leb 1980 d.year && leb d.year 2079) _ e in
    let b = and-true (leb 1980 d.year) (leb d.year 2079) a.0 in
    let c = and-true (leb 1 d.day) (leb d.day (days_in d.month d.year)) a.1 in
    let m = days-most d.month d.year d.day (leb-true 1 d.day c.0) (leb-true d.day (days_in d.month d.year) c.1) in
    let y = leb-true d.year 2079 b.1 in
    both (le-leb d.day most (omega (arith, m.1)))
    (both (le-leb d.month most (omega (arith, m.0))) (le-leb d.year most (omega (arith, y))))

zero_held : (v : ℕ) → eqb v 0 ≡ true → leb v most ≡ true
zero_held v e = le-leb v most (omega (arith, eqb-true v 0 e))

pub true-zero : (b : Bool) → ◌≡◌ {A = ℕ} (cond b 0 1) 0 → b ≡ true
true-zero true e = refl
true-zero false e = let z : ⊥ = omega (arith, e) in absurd z

pub six-held : (d : Date) → six_wrong d ≡ 0 → date_layout.held d ≡ true
unfolding six_wrong
six-held d e = go d.there e
  where
    go : (t : Bool) → ◌≡◌ {A = ℕ} (cond t (cond (is_date d.day d.month d.year) 0 1)
        (cond (eqb d.day 0 && (eqb d.month 0 && eqb d.year 0)) 0 1)) 0 → date_layout.held d ≡ true
    go true i = date-most d (true-zero (is_date d.day d.month d.year) i)
    go false i =
        let a = and-true (eqb d.day 0) (eqb d.month 0 && eqb d.year 0) (true-zero _ i) in
        let b = and-true (eqb d.month 0) (eqb d.year 0) a.1 in
        both (zero_held d.day a.0) (both (zero_held d.month b.0) (zero_held d.year b.1))

pub three-held : (d : Date) → three_wrong d ≡ 0 → date_layout.held d ≡ true
unfolding three_wrong
three-held d e =
    let a = first-zero (range_wrong 1 31 d.there d.day) (λ q. omega arith) e in
    let b = first-zero (range_wrong 1 12 d.there d.month) (λ q. omega arith) a.1 in
    six-held d (first-zero (six_wrong d) (λ q. omega arith) b.1).0

mask-most : (v : ℕ) → is_port_mask v ≡ true → leb v most ≡ true
unfolding is_port_mask
mask-most v e =
    let z : v / 4096 ≡ 0 = eqb-true (v / 4096) 0 (and-true (eqb (v / 128 % 2) 0) (eqb (v / 4096) 0) e).1 in
    le-leb v most (omega (arith, z))

pub port-held : (there : Bool) (v : ℕ) → port_wrong there v ≡ 0 → leb v most ≡ true
unfolding port_wrong
port-held true v e = mask-most v (true-zero (is_port_mask v) e)
port-held false v e = outside-held 0 0 v (lit≤ tt) e

missing-held : (m : Maybe) → is_missing m ≡ true → leb m.value most ≡ true
missing-held m e = zero_held m.value (and-true (not m.there) (eqb m.value 0) e).1

-- A blank satellite.
pub blank-held : (e : Entry) → is_blank e ≡ true
    → (leb e.number most && (leb e.elevation.value most && (leb e.azimuth.value most && leb e.signal.value most))) ≡ true
unfolding is_blank
blank-held e i =
    let a = and-true (eqb e.number 0) _ i in
    let b = and-true (is_missing e.elevation) _ a.1 in
    let c = and-true (is_missing e.azimuth) (is_missing e.signal) b.1 in
    both (zero_held e.number a.0)
    (both (missing-held e.elevation b.0) (both (missing-held e.azimuth c.0) (missing-held e.signal c.1)))
