-- A table in range is the table of its used entries, and its fault is none exactly where these are at most 36, each in range and no number
-- twice: the writer's faults, entry by entry, are these three, and the places that are not used are blank.
use Prim.Native.Nat.{◌%◌, ◌*◌, ◌+◌, ◌-◌, ◌/◌, ◌≤◌, suc, zero, ℕ}
use mathlib.Core.Bool.{◌||◌, Bool, false, true}
use mathlib.Core.List.{[], ◌++◌, ◌∷◌, append_assoc, append-nil, List}
use mathlib.Core.Path.{◌∙◌, ◌≡◌, ap, ap₂, refl, subst, sym}
use native.Mathlib.Omega.{arith}
use lib.Dec.{eqb, ltb}
use lib.ListN.{drop, length, length-append, length-drop, length-replicate, replicate, take, take-append-drop}
use lib.Seq.{drop_at, length-take-le, take_at}
use borrow.Author.Tests.{eqb-false, eqb-true, le-ltb, ltb-false}
use Rattle.digits.specs.Pick.{pick}
use Rattle.digits.proofs.Bools.{and_left, and_right}
use Rattle.frame.specs.Written.{refused, wrote}
use Rattle.frame.specs.declared.Written.{Written}
use Rattle.kind_gsv.specs.Blank.{blank_entry, is_blank}
use Rattle.kind_gsv.specs.declared.Entry.{Entry}
use Rattle.kind_gsv.proofs.EntryLaws.{blank-is}
use Rattle.sky.specs.Group.{numbered, repeats}
use Rattle.sky.specs.Sky.{table_of}
use Rattle.sky.specs.Table.{all_blank, entry_fault, entry_wrong, fault_from, or_else, table_fault}
use Rattle.sky.specs.declared.Table.{Table}

-- Entries whose values are all in range.
abbrev pub EachGood : List Entry → Type 0
EachGood [] = Unit {0}
EachGood (e ∷ es) = (entry_wrong e ≡ 0) × EachGood es

pub good-append : (es fs : List Entry) → EachGood es → EachGood fs → EachGood (es ++ fs)
good-append [] fs g h = h
good-append (e ∷ es) fs g h = (g.0, good-append es fs g.1 h)

pub good-drop : (i : ℕ) (es : List Entry) → EachGood es → EachGood (drop i es)
good-drop zero es g = g
good-drop (suc i) [] g = tt
good-drop (suc i) (e ∷ es) g = good-drop i es g.1

-- No number twice in two lists, one after the other: none in the first, and none in the second behind it.
pub or-none : (a b : Bool) → a ≡ false → b ≡ false → (a || b) ≡ false
or-none true b p q = p
or-none false b p q = q

pub none_left : (a b : Bool) → (a || b) ≡ false → a ≡ false
none_left true b e = e
none_left false b e = refl

pub none_right : (a b : Bool) → (a || b) ≡ false → b ≡ false
none_right true true e = e
none_right true false e = refl
none_right false b e = e

pub once-append : (before es fs : List Entry) → repeats before es ≡ false → repeats (before ++ es) fs ≡ false
    → repeats before (es ++ fs) ≡ false
unfolding repeats
once-append before [] fs p q = subst (λ (l : List Entry). repeats l fs ≡ false) (append-nil before) q
once-append before (e ∷ es) fs p q =
    or-none (numbered e.number before) _ (none_left _ _ p)
    (once-append (before ++ (e ∷ [])) es fs (none_right (numbered e.number before) _ p)
    (subst (λ (l : List Entry). repeats l fs ≡ false) (sym (append_assoc before (e ∷ []) es)) q))

pub once-behind : (before es fs : List Entry) → repeats before (es ++ fs) ≡ false → repeats (before ++ es) fs ≡ false
unfolding repeats
once-behind before [] fs p = subst (λ (l : List Entry). repeats l fs ≡ false) (sym (append-nil before)) p
once-behind before (e ∷ es) fs p =
    subst (λ (l : List Entry). repeats l fs ≡ false) (append_assoc before (e ∷ []) es)
    (once-behind (before ++ (e ∷ [])) es fs (none_right (numbered e.number before) _ p))

pub once-front : (before es fs : List Entry) → repeats before (es ++ fs) ≡ false → repeats before es ≡ false
unfolding repeats
once-front before [] fs p = refl
once-front before (e ∷ es) fs p =
    or-none (numbered e.number before) _ (none_left _ _ p)
    (once-front (before ++ (e ∷ [])) es fs (none_right (numbered e.number before) _ p))

-- The entries of a table in range.
pub record InRange (es : List Entry) : Type 0 where
  pub few : length es ≤ 36
  pub each : EachGood es
  pub once : repeats [] es ≡ false

-- What it says that there is no fault.
both-none : (a b : Written) → (or_else a b).no ≡ 0 → (a.no ≡ 0) × (b.no ≡ 0)
both-none a b e = go (eqb a.no 0) refl e
  where
    go : (t : Bool) → eqb a.no 0 ≡ t → (pick t b a).no ≡ 0 → (a.no ≡ 0) × (b.no ≡ 0)
    go true q i = (eqb-true a.no 0 q, i)
    go false q i = absurd (eqb-false a.no 0 q i)

module _ (i : ℕ) (before : List Entry) (e : Entry) where
  entry-none : (entry_fault i before e).no ≡ 0 → (entry_wrong e ≡ 0) × (numbered e.number before ≡ false)
  unfolding entry_fault
  entry-none = go (eqb (entry_wrong e) 0) (numbered e.number before) refl refl
    where
      go : (a b : Bool) → eqb (entry_wrong e) 0 ≡ a → numbered e.number before ≡ b
          → (pick a (pick b (refused 7 (i / 4 + 1) 0) (wrote 0)) (refused 5 (i / 4 + 1) (3 + 4 * (i % 4) + entry_wrong e))).no ≡ 0
          → (entry_wrong e ≡ 0) × (numbered e.number before ≡ false)
      go true true p q f = let z : ⊥ = omega arith in absurd z
      go true false p q f = (eqb-true (entry_wrong e) 0 p, q)
      go false b p q f = let z : ⊥ = omega arith in absurd z

  none-entry : entry_wrong e ≡ 0 → numbered e.number before ≡ false → entry_fault i before e ≡ wrote 0
  unfolding entry_fault
  none-entry p q = rw (p, q)

entries_none : (i : ℕ) (before es : List Entry) → (fault_from i before es).no ≡ 0 → EachGood es × (repeats before es ≡ false)
unfolding fault_from repeats
entries_none i before [] f = (tt, refl)
entries_none i before (e ∷ es) f =
    let z = both-none (entry_fault i before e) (fault_from (i + 1) (before ++ (e ∷ [])) es) f in
    let x = entry-none i before e z.0 in
    let y = entries_none (i + 1) (before ++ (e ∷ [])) es z.1 in
    ((x.0, y.0), or-none _ _ x.1 y.1)

none-entries : (i : ℕ) (before es : List Entry) → EachGood es → repeats before es ≡ false → fault_from i before es ≡ wrote 0
unfolding fault_from repeats
none-entries i before [] g o = refl
none-entries i before (e ∷ es) g o =
    rw (none-entry i before e g.0 (none_left _ _ o))
    (none-entries (i + 1) (before ++ (e ∷ [])) es g.1 (none_right (numbered e.number before) _ o))

blank-all : (l : List Entry) → all_blank l ≡ true → l ≡ replicate (length l) blank_entry
unfolding all_blank
blank-all [] b = refl
blank-all (e ∷ l) b =
    ap₂ (λ (x : Entry) (y : List Entry). x ∷ y) (blank-is e (and_left _ _ b)) (blank-all l (and_right (is_blank e) _ b))

all-blank : (n : ℕ) → all_blank (replicate n blank_entry) ≡ true
unfolding all_blank is_blank
all-blank zero = refl
all-blank (suc n) = all-blank n

module _ (r : Table) (places : length r.entries ≡ 36) (none : (table_fault r).no ≡ 0) where
  abbrev used : List Entry
  used = take r.count r.entries

  abbrev left : List Entry
  left = drop r.count r.entries

  table_none : (r.count ≤ 36) × ((fault_from 0 [] used).no ≡ 0) × (all_blank left ≡ true)
  unfolding table_fault
  table_none = go (ltb 36 r.count) (all_blank left) refl refl none
    where
      go : (a b : Bool) → ltb 36 r.count ≡ a → all_blank left ≡ b
          → (pick a (refused 5 0 0) (or_else (fault_from 0 [] used) (pick b (wrote 0) (refused 5 0 0)))).no ≡ 0
          → (r.count ≤ 36) × ((fault_from 0 [] used).no ≡ 0) × (all_blank left ≡ true)
      go true b p q f = let z : ⊥ = omega arith in absurd z
      go false true p q f = (ltb-false 36 r.count p, (both-none (fault_from 0 [] used) (wrote 0) f).0, q)
      go false false p q f = let z = (both-none (fault_from 0 [] used) (refused 5 0 0) f).1 in let y : ⊥ = omega (arith, z) in absurd y

  used-many : length used ≡ r.count
  used-many = length-take-le r.count r.entries (omega (arith, places, table_none.0))

  pub used-in-range : InRange used
  used-in-range =
      let z = entries_none 0 [] used table_none.1 in
      record { few = omega (arith, used-many, table_none.0); each = z.0; once = z.1 }

  -- The places that are not used are as many blank ones as the table of its used entries has.
  left-blank : replicate (36 - r.count) blank_entry ≡ left
  left-blank =
      let n : 36 - r.count ≡ length left = omega (arith, places, length-drop r.count r.entries) in
      ap (λ (m : ℕ). replicate m blank_entry) n ∙ sym (blank-all left table_none.2)

  pub of-used : table_of used ≡ r
  of-used =
      ap (λ (m : ℕ). made m (used ++ replicate (36 - m) blank_entry)) used-many
      ∙ ap (λ (l : List Entry). made r.count (used ++ l)) left-blank
      ∙ ap (made r.count) (take-append-drop r.count r.entries)
    where
      made : ℕ → List Entry → Table
      made n es = record { count = n; entries = es }

-- And back: the table of such entries has 36 places and no fault.
module _ (es : List Entry) (s : InRange es) where
  pub table-places : length (table_of es).entries ≡ 36
  table-places = length-append es (replicate (36 - length es) blank_entry) ∙ rw (length-replicate (36 - length es) blank_entry)
      (omega (arith, s.few))

  pub table-good : (table_fault (table_of es)).no ≡ 0
  unfolding table_fault
  table-good =
      rw (le-ltb 36 (length es) s.few, take_at es (replicate (36 - length es) blank_entry) (length es) refl)
      (rw (drop_at es (replicate (36 - length es) blank_entry) (length es) refl, none-entries 0 [] es s.each s.once)
      (rw (all-blank (36 - length es))))
