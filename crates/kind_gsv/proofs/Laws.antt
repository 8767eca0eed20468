-- The laws of the row of GSV, which goes by its count, form by form; and what is good by the row is good entry by entry.
use Prim.Native.Nat.{◌≤◌, ℕ}
use mathlib.Core.Bool.{◌||◌, Bool, false, true}
use mathlib.Core.List.{[], ◌++◌, ◌∷◌, List}
use mathlib.Core.Path.{◌≡◌, refl}
use lib.Dec.{lit<, lit≤, ltb}
use Rattle.digits.proofs.Bools.{and_both, and_left, and_right}
use Rattle.form.specs.Kind.{fault_by}
use Rattle.form.specs.Row.{one}
use Rattle.form.specs.Values.{outside}
use Rattle.form.specs.Wrong.{After, near_of}
use Rattle.form.proofs.Laws.{◌⊳◌, Lawful, lawful-one, near-zero}
use Rattle.form.proofs.PlaceLaws.{Prefix, prefix-one}
use Rattle.form.proofs.PlaceRows.{◌⊩◌}
use Rattle.form.proofs.Values.{zero_one}
use Rattle.form.proofs.Zeros.{all-zero, Zero, zero-all}
use Rattle.form_number.proofs.Laws.{lawful-exact}
use Rattle.form_number.proofs.Place.{prefix-exact}
use Rattle.kind_gsv.specs.Blank.{is_blank}
use Rattle.kind_gsv.specs.declared.Entry.{Entry}
use Rattle.kind_gsv.specs.declared.Gsv.{Gsv}
use Rattle.kind_gsv.specs.Row.{entry_if, entry_row, gsv_row}
use Rattle.kind_gsv.specs.Writing.{entry_afters, entry_of, gsv_values, gsv_wrong, rest_blank, used}
use Rattle.kind_gsv.proofs.EntryLaws.{first-none, lawful-entry_if, none_first, prefix-entry_if}
use Rattle.kind_gsv.proofs.GoodLaws.{Good}

prefix-at : (count k : ℕ) → Prefix (entry_row count k)
prefix-at count k = prefix-one (prefix-entry_if (ltb k count))

pub prefix-gsv : (count : ℕ) → Prefix (gsv_row count)
unfolding gsv_row
prefix-gsv count =
    let line = prefix-one (prefix-exact 1 1 9 (lit≤ tt) (lit< tt) (lit≤ tt)) in
    line ⊩ line ⊩ prefix-one (prefix-exact 2 0 99 (lit≤ tt) (lit< tt) (lit≤ tt)) ⊩ prefix-at count 0 ⊩ prefix-at count 1 ⊩ prefix-at count 2
    ⊩ prefix-at count 3

-- The row of so many entries is lawful.
pub lawful-gsv : (count : ℕ) → Lawful (gsv_row count)
unfolding gsv_row
lawful-gsv count =
    let digit = lawful-one (lawful-exact 1 1 9 (lit≤ tt) (lit≤ tt) (lit< tt)) in
    let entry-of : (k : ℕ) → Lawful (one (entry_if (ltb k count))) = λ k. lawful-one (lawful-entry_if (ltb k count)) in
    digit ⊳ digit ⊳ lawful-one (lawful-exact 2 0 99 (lit≤ tt) (lit≤ tt) (lit< tt)) ⊳ entry-of 0 ⊳ entry-of 1 ⊳ entry-of 2 ⊳ entry-of 3

-- What the writer looks at of an entry, used or not, is what its form does.
to-form : (on : Bool) (n : ℕ) (e : Entry) → Zero (entry_afters on n e) → (on || is_blank e) ≡ true → (entry_if on).fault e ≡ 0
to-form true n e z b = none_first _ _ _ _ z.0 z.1.0 z.1.1.0 z.1.1.1.0
to-form false n e z b = rw b

from-form : (on : Bool) (n : ℕ) (e : Entry) → (entry_if on).fault e ≡ 0 → Zero (entry_afters on n e) × ((on || is_blank e) ≡ true)
from-form true n e q = let z = first-none _ _ _ _ q in ((z.0, (z.1.0, (z.1.1.0, (z.1.1.1, tt)))), refl)
from-form false n e q = (tt, zero_one (is_blank e) q)

zero-append : (l m : List After) → Zero l → Zero m → Zero (l ++ m)
zero-append [] m p q = q
zero-append (a ∷ l) m p q = (p.0, zero-append l m p.1 q)

zero-split : (l m : List After) → Zero (l ++ m) → Zero l × Zero m
zero-split [] m z = (tt, z)
zero-split (a ∷ l) m z = let s = zero-split l m z.1 in ((z.0, s.0), s.1)

module _ (r : Gsv) where
  abbrev afters : ℕ → ℕ → List After
  afters k n = entry_afters (used r k) n (entry_of r k)

  abbrev fault : ℕ → ℕ
  fault k = (entry_if (used r k)).fault (entry_of r k)

  row_zero : outside 1 9 r.lines ≡ 0 → outside 1 9 r.line ≡ 0 → outside 0 99 r.satellites ≡ 0 → fault 0 ≡ 0 → fault 1 ≡ 0
      → fault 2 ≡ 0 → fault 3 ≡ 0 → fault_by (gsv_row r.count) (gsv_values r) ≡ 0
  unfolding fault_by gsv_row near_of
  row_zero a b c p q s u = rw (a, b, c, p, q, s, u)

  pub good-row : Good r → fault_by (gsv_row r.count) (gsv_values r) ≡ 0
  unfolding gsv_wrong rest_blank
  good-row g =
      let z = all-zero _ g.values in
      let z0 = zero-split (afters 0 3) _ z.1.1.1 in
      let z1 = zero-split (afters 1 7) _ z0.1 in
      let z2 = zero-split (afters 2 11) (afters 3 15) z1.1 in
      let b1 = and_right (used r 0 || is_blank (entry_of r 0)) _ g.blank in
      let b2 = and_right (used r 1 || is_blank (entry_of r 1)) _ b1 in
      let f0 = to-form (used r 0) 3 (entry_of r 0) z0.0 (and_left (used r 0 || is_blank (entry_of r 0)) _ g.blank) in
      let f1 = to-form (used r 1) 7 (entry_of r 1) z1.0 (and_left (used r 1 || is_blank (entry_of r 1)) _ b1) in
      let f2 = to-form (used r 2) 11 (entry_of r 2) z2.0 (and_left (used r 2 || is_blank (entry_of r 2)) _ b2) in
      let f3 = to-form (used r 3) 15 (entry_of r 3) z2.1 (and_right (used r 2 || is_blank (entry_of r 2)) _ b2) in
      row_zero z.0 z.1.0 z.1.1.0 f0 f1 f2 f3

  pub row-good : r.count ≤ 4 → fault_by (gsv_row r.count) (gsv_values r) ≡ 0 → Good r
  unfolding fault_by gsv_row gsv_wrong rest_blank
  row-good few e =
      let a = near-zero 0 _ _ e in
      let b = near-zero 1 _ _ a.1 in
      let c = near-zero 2 _ _ b.1 in
      let d0 = near-zero 3 _ _ c.1 in
      let d1 = near-zero _ _ _ d0.1 in
      let d2 = near-zero _ _ _ d1.1 in
      let d3 = near-zero _ _ _ d2.1 in
      let f0 = from-form (used r 0) 3 (entry_of r 0) d0.0 in
      let f1 = from-form (used r 1) 7 (entry_of r 1) d1.0 in
      let f2 = from-form (used r 2) 11 (entry_of r 2) d2.0 in
      let f3 = from-form (used r 3) 15 (entry_of r 3) d3.0 in
      let entries = zero-append (afters 0 3) _ f0.0 (zero-append (afters 1 7) _ f1.0 (zero-append (afters 2 11) _ f2.0 f3.0)) in
      record {
        few = few;
        values = zero-all _ (a.0, (b.0, (c.0, entries)));
        blank = and_both _ _ f0.1 (and_both _ _ f1.1 (and_both _ _ f2.1 f3.1));
      }
