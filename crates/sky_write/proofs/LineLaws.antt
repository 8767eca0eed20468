-- A table without a fault, place by place: its used entries are good and its other places blank, so each of its lines is a record without
-- a fault, whose entries are the table's at the line's four places.
use Prim.Native.Nat.{◌%◌, ◌*◌, ◌+◌, ◌-◌, ◌/◌, ◌<◌, ◌≤◌, suc, zero, ℕ}
use mathlib.Core.Bool.{◌||◌, Bool, false, true}
use mathlib.Core.List.{[], ◌++◌, ◌∷◌, List}
use mathlib.Core.Path.{◌∙◌, ◌≡◌, ap, refl, subst, sym}
use native.Mathlib.Omega.{arith}
use lib.Dec.{eqb, lit<, ltb}
use lib.ListN.{drop, get_or, length, take}
use lib.Seq.{get_or-drop, get_or-take, length-take-le}
use borrow.Author.Tests.{eq-eqb, eqb-false, eqb-true, le-ltb, ltb-false, ltb-true}
use Rattle.digits.specs.Pick.{pick}
use Rattle.digits.proofs.Bools.{and_both, and_left, and_right}
use Rattle.frame.specs.Written.{refused, wrote}
use Rattle.frame.specs.declared.Written.{Written}
use Rattle.form.specs.Wrong.{After, first_wrong}
use Rattle.form.proofs.Ranged.{in-outside}
use Rattle.form.proofs.Zeros.{all-zero, zero-all}
use Rattle.kind_gsv.specs.Blank.{blank_entry, is_blank}
use Rattle.kind_gsv.specs.declared.Entry.{Entry}
use Rattle.kind_gsv.specs.Writing.{entry_afters, entry_of, gsv_fault, gsv_wrong, rest_blank, used}
use Rattle.sky.specs.Group.{entries_at, lines_for, numbered, repeats}
use Rattle.sky.specs.Table.{all_blank, entry_fault, entry_wrong, fault_from, line_at, or_else, table_fault}
use Rattle.sky.specs.declared.Table.{Table}
use Rattle.sky_write.proofs.Counts.{entries-are, lines_are}

or-else : (a b : Written) → (or_else a b).no ≡ 0 → (a.no ≡ 0) × (b.no ≡ 0)
or-else a b e = go (eqb a.no 0) refl e
  where
    go : (t : Bool) → eqb a.no 0 ≡ t → (pick t b a).no ≡ 0 → (a.no ≡ 0) × (b.no ≡ 0)
    go true q i = (eqb-true a.no 0 q, i)
    go false q i = absurd (eqb-false a.no 0 q i)

-- An entry without a fault has good values and a number of its own.
entry-good : (i : ℕ) (before : List Entry) (e : Entry) → (entry_fault i before e).no ≡ 0 → (entry_wrong e ≡ 0)
    × (numbered e.number before ≡ false)
unfolding entry_fault
entry-good i before e h = go (eqb (entry_wrong e) 0) (numbered e.number before) refl refl h
  where
    go : (s t : Bool) → eqb (entry_wrong e) 0 ≡ s → numbered e.number before ≡ t
        → (pick s (pick t (refused 7 (i / 4 + 1) 0) (wrote 0)) (refused 5 (i / 4 + 1) (3 + 4 * (i % 4) + entry_wrong e))).no ≡ 0
        → (entry_wrong e ≡ 0) × (numbered e.number before ≡ false)
    go true false p q h = (eqb-true (entry_wrong e) 0 p, q)
    go true true p q h = let z : ⊥ = omega arith in absurd z
    go false t p q h = let z : ⊥ = omega arith in absurd z

used-good : (i : ℕ) (before l : List Entry) → (fault_from i before l).no ≡ 0 → (j : ℕ) → j < length l → entry_wrong (get_or l j blank_entry) ≡ 0
unfolding fault_from
used-good i before [] h j k = let z : ⊥ = omega arith in absurd z
used-good i before (e ∷ l) h zero k = (entry-good i before e (or-else _ _ h).0).0
used-good i before (e ∷ l) h (suc j) k = used-good (i + 1) (before ++ (e ∷ [])) l (or-else (entry_fault i before e) _ h).1 j (omega arith)

used-once : (i : ℕ) (before l : List Entry) → (fault_from i before l).no ≡ 0 → repeats before l ≡ false
unfolding fault_from repeats
used-once i before [] h = refl
used-once i before (e ∷ l) h =
    rw (entry-good i before e (or-else _ _ h).0).1 (used-once (i + 1) (before ++ (e ∷ [])) l (or-else (entry_fault i before e) _ h).1)

blank-good : (l : List Entry) → all_blank l ≡ true → (j : ℕ) → is_blank (get_or l j blank_entry) ≡ true
unfolding all_blank is_blank
blank-good [] h j = refl
blank-good (e ∷ l) h zero = and_left _ _ h
blank-good (e ∷ l) h (suc j) = blank-good l (and_right (is_blank e) _ h) j

-- What a table without a fault is.
pub record Clear (r : Table) : Type 0 where
  pub few : r.count ≤ 36
  pub values : (i : ℕ) → i < r.count → entry_wrong (get_or r.entries i blank_entry) ≡ 0
  pub once : repeats [] (take r.count r.entries) ≡ false
  pub blank : (i : ℕ) → r.count ≤ i → is_blank (get_or r.entries i blank_entry) ≡ true

pub clear-is : (r : Table) → length r.entries ≡ 36 → (table_fault r).no ≡ 0 → Clear r
unfolding table_fault
clear-is r long h = go (ltb 36 r.count) (all_blank (drop r.count r.entries)) refl refl h
  where
    u : List Entry
    u = take r.count r.entries

    go : (s t : Bool) → ltb 36 r.count ≡ s → all_blank (drop r.count r.entries) ≡ t
        → (pick s (refused 5 0 0) (or_else (fault_from 0 [] u) (pick t (wrote 0) (refused 5 0 0)))).no ≡ 0 → Clear r
    go true t p q h = let z : ⊥ = omega arith in absurd z
    go false false p q h = let z = (or-else (fault_from 0 [] u) (refused 5 0 0) h).1 in let w : ⊥ = omega (arith, z) in absurd w
    go false true p q h =
        let n = ltb-false 36 r.count p in
        let f = (or-else (fault_from 0 [] u) (wrote 0) h).0 in
        let m = length-take-le r.count r.entries (omega (arith, n, long)) in
        record {
          few = n;
          values = λ i j. sym (ap entry_wrong (get_or-take r.count r.entries i blank_entry j))
              ∙ used-good 0 [] u f i (omega (arith, j, m));
          once = used-once 0 [] u f;
          blank = λ i j. let e : r.count + (i - r.count) ≡ i = omega (arith, j) in
              subst (λ (a : ℕ). is_blank (get_or r.entries a blank_entry) ≡ true) e
              (sym (ap is_blank (get_or-drop r.count r.entries (i - r.count) blank_entry))
              ∙ blank-good (drop r.count r.entries) q (i - r.count));
        }

-- A used entry with good values, and one that is not used, are passed over.
pass : (u : Bool) (n : ℕ) (e : Entry) (l : List After) → (u ≡ true → entry_wrong e ≡ 0) → first_wrong l ≡ 0
    → first_wrong (entry_afters u n e ++ l) ≡ 0
unfolding entry_wrong
pass true n e l g z =
    let w = all-zero (entry_afters true 0 e) (g refl) in
    zero-all (entry_afters true n e ++ l) (w.0, (w.1.0, (w.1.1.0, (w.1.1.1.0, all-zero l z))))
pass false n e l g z = z

pass-last : (u : Bool) (n : ℕ) (e : Entry) → (u ≡ true → entry_wrong e ≡ 0) → first_wrong (entry_afters u n e) ≡ 0
unfolding entry_wrong first_wrong
pass-last true n e g =
    let w = all-zero (entry_afters true 0 e) (g refl) in
    zero-all (entry_afters true n e) (w.0, (w.1.0, (w.1.1.0, (w.1.1.1.0, tt))))
pass-last false n e g = refl

or-blank : (u b : Bool) → (u ≡ false → b ≡ true) → (u || b) ≡ true
or-blank true b h = refl
or-blank false b h = h refl

module _ (r : Table) (k : ℕ) where
  -- The entry in place j of line k.
  pub entry_at : (j : ℕ) → j < 4 → entry_of (line_at r k) j ≡ get_or r.entries (4 * (k - 1) + j) blank_entry
  unfolding line_at
  entry_at j h = get_or-take 4 (drop (4 * (k - 1)) r.entries) j blank_entry h ∙ get_or-drop (4 * (k - 1)) r.entries j blank_entry

  module _ (c : Clear r) where
    at-used : (j : ℕ) → j < 4 → used (line_at r k) j ≡ true → entry_wrong (entry_of (line_at r k) j) ≡ 0
    unfolding line_at
    at-used j h u =
        ap entry_wrong (entry_at j h)
        ∙ c.values (4 * (k - 1) + j) (omega (arith, ltb-true j (entries_at r.count k) u, (entries-are r.count k).most))

    at_rest : (j : ℕ) → j < 4 → used (line_at r k) j ≡ false → is_blank (entry_of (line_at r k) j) ≡ true
    unfolding line_at
    at_rest j h u =
        let z = ltb-false j (entries_at r.count k) u in
        let q = (entries-are r.count k).rest (omega (arith, z, h)) in
        ap is_blank (entry_at j h) ∙ c.blank (4 * (k - 1) + j) (omega (arith, z, q))

    rest-good : rest_blank (line_at r k) ≡ true
    unfolding rest_blank
    rest-good =
        and_both _ _ (or-blank _ _ (at_rest 0 (lit< tt))) (and_both _ _ (or-blank _ _ (at_rest 1 (lit< tt)))
        (and_both _ _ (or-blank _ _ (at_rest 2 (lit< tt))) (or-blank _ _ (at_rest 3 (lit< tt)))))

    module _ (from : 1 ≤ k) (to : k ≤ lines_for r.count) where
      values-good : gsv_wrong (line_at r k) ≡ 0
      unfolding gsv_wrong line_at
      values-good =
          let m = lines_are r.count in
          let nine = m.nine c.few in
          zero-all _ (
            in-outside 1 9 (lines_for r.count) m.one nine,
            (
              in-outside 1 9 k from (omega (arith, to, nine)),
              (
                in-outside 0 99 r.count (omega arith) (omega (arith, c.few)),
                all-zero _ (pass (used (line_at r k) 0) 3 (entry_of (line_at r k) 0) _ (at-used 0 (lit< tt))
                    (pass (used (line_at r k) 1) 7 (entry_of (line_at r k) 1) _ (at-used 1 (lit< tt))
                    (pass (used (line_at r k) 2) 11 (entry_of (line_at r k) 2) _ (at-used 2 (lit< tt))
                    (pass-last (used (line_at r k) 3) 15 (entry_of (line_at r k) 3) (at-used 3 (lit< tt)))))),
              ),
            ),
          )

      clear-line : (gsv_fault (line_at r k)).no ≡ 0
      unfolding gsv_fault line_at
      clear-line = rw (
        le-ltb 4 (entries_at r.count k) (entries-are r.count k).four,
        eq-eqb (gsv_wrong (line_at r k)) 0 values-good,
        rest-good,
      )

-- Each line of a table without a fault is a record without a fault.
pub line-good : (r : Table) → length r.entries ≡ 36 → (table_fault r).no ≡ 0 → (k : ℕ) → 1 ≤ k → k ≤ lines_for r.count
    → (gsv_fault (line_at r k)).no ≡ 0
line-good r long good k from to = clear-line r k (clear-is r long good) from to
