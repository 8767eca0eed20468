-- Faults as the loops meet them: one entry against the marks of those before it, then the entries one after another, each time what is left
-- decides as the whole does; and the places that are not used.
use Prim.Native.Nat.{◌%◌, ◌*◌, ◌+◌, ◌/◌, ◌<◌, ◌≤◌, suc, ℕ}
use mathlib.Core.Bool.{◌&&◌, Bool, cond, false, true}
use mathlib.Core.List.{[], ◌++◌, ◌∷◌, List}
use mathlib.Core.Path.{◌∙◌, ◌≡◌, ap, refl, subst, sym}
use native.Mathlib.Numerals.{add-one}
use native.Mathlib.Omega.{arith}
use lib.Dec.{eqb, leb}
use Rattle.std.specs.List.{list_all}
use lib.ListN.{drop, drop_of_length-le, get_or, length, length-set, take}
use lib.Seq.{drop-cons, take-suc}
use borrow.Author.Tests.{eq-eqb, le-ltb, lt-ltb, ne_eqb}
use Rattle.frame.specs.Written.{refused, wrote}
use Rattle.frame.specs.declared.Written.{Written}
use Rattle.form.specs.Values.{outside, range_wrong}
use Rattle.form.specs.Wrong.{first_wrong, near_of}
use Rattle.form.proofs.Values.{inside}
use Rattle.form.proofs.Zeros.{all-zero}
use Rattle.kind_gsv.specs.Blank.{is_blank}
use Rattle.kind_gsv.specs.declared.Entry.{Entry}
use Rattle.kind_gsv.specs.Writing.{entry_afters}
use Rattle.sky.specs.Marks.{had_if, marked_if, Marks}
use Rattle.sky.specs.Table.{all_blank, entry_fault, entry_wrong, fault_from, or_else, table_fault}
use Rattle.sky.specs.declared.Table.{Table}
use Rattle.sky.proofs.MarkLaws.{One, one-mark}
use Rattle.sky_write.specs.Looks.{Looks}

-- The first wrong one of four values is one of the four, and an entry with none has a number below 100.
near-few : (n w rest m : ℕ) → n + w ≤ m → rest ≤ m → near_of n w rest ≤ m
unfolding near_of
near-few n w rest m h i = go (eqb w 0)
  where
    go : (t : Bool) → cond t rest (n + w) ≤ m
    go true = i
    go false = h

outside-one : (lo hi v : ℕ) → outside lo hi v ≤ 1
unfolding outside
outside-one lo hi v = go (leb lo v && leb v hi)
  where
    go : (t : Bool) → cond t 0 1 ≤ 1
    go true = omega arith
    go false = omega arith

range-one : (lo hi : ℕ) (there : Bool) (v : ℕ) → range_wrong lo hi there v ≤ 1
unfolding range_wrong
range-one lo hi true v = outside-one lo hi v
range-one lo hi false v = outside-one 0 0 v

pub wrong-few : (e : Entry) → entry_wrong e ≤ 4
unfolding entry_wrong first_wrong
wrong-few e =
    near-few 0 (outside 1 99 e.number) _ 4 (omega (arith, outside-one 1 99 e.number))
    (near-few 1 (range_wrong 0 90 e.elevation.there e.elevation.value) _ 4
    (omega (arith, range-one 0 90 e.elevation.there e.elevation.value))
    (near-few 2 (range_wrong 0 359 e.azimuth.there e.azimuth.value) _ 4
    (omega (arith, range-one 0 359 e.azimuth.there e.azimuth.value))
    (near-few 3 (range_wrong 0 99 e.signal.there e.signal.value) 0 4
    (omega (arith, range-one 0 99 e.signal.there e.signal.value)) (omega arith))))

pub number-low : (e : Entry) (w : ℕ) → w ≡ entry_wrong e → w ≡ 0 → e.number < 100
unfolding entry_wrong
number-low e w p z =
    let h : e.number ≤ 99 = (inside 1 99 e.number (all-zero (entry_afters true 0 e) (sym p ∙ z)).0).1 in
    omega (arith, h)

-- One entry.
module _ (i : ℕ) (e : Entry) (seen : List ℕ) {w : ℕ} (p : w ≡ entry_wrong e) where
  pub look-wrong : {a : Written} → (w ≡ 0 → ⊥) → a ≡ refused 5 (i / 4 + 1) (3 + 4 * (i % 4) + w) → Looks i e seen a seen
  unfolding entry_fault
  look-wrong h q =
      record {
        long = refl;
        answers = λ before m. q ∙ rw (p, ne_eqb (entry_wrong e) 0 (λ z. h (p ∙ z)));
        marks = λ before m z. let u : ◌≡◌ {A = ℕ} 5 0 = sym (ap (λ (b : Written). b.no) q) ∙ z in let v : ⊥ = omega (arith, u) in absurd v;
      }

  module _ (z : w ≡ 0) (full : length seen ≡ 100) where
    low : e.number < length seen
    low = omega (arith, number-low e w p z, full)

    kept : {left : List ℕ} → left ≡ marked_if true e.number seen → length left ≡ length seen
    kept l = ap (λ (x : List ℕ). length x) l ∙ length-set seen e.number 1

    marked : (before : List Entry) → Marks before seen → One true e before (had_if true e.number seen) (marked_if true e.number seen)
    marked before m = one-mark true e before seen m (λ t. low)

    pub look-seen : {a : Written} {had : Bool} {left : List ℕ} → had ≡ had_if true e.number seen
        → left ≡ marked_if true e.number seen → had ≡ true → a ≡ refused 7 (i / 4 + 1) 0 → Looks i e seen a left
    unfolding entry_fault
    look-seen f l h q =
        record {
          long = kept l;
          answers = λ before m. q ∙ rw (eq-eqb (entry_wrong e) 0 (sym p ∙ z), sym (marked before m).finds ∙ sym f ∙ h);
          marks = λ before m n. let u : ◌≡◌ {A = ℕ} 7 0 = sym (ap (λ (b : Written). b.no) q) ∙ n in let v : ⊥ = omega (arith, u) in
              absurd v;
        }

    pub look-good : {a : Written} {had : Bool} {left : List ℕ} → had ≡ had_if true e.number seen
        → left ≡ marked_if true e.number seen → had ≡ false → a ≡ wrote 0 → Looks i e seen a left
    unfolding entry_fault
    look-good f l h q =
        record {
          long = kept l;
          answers = λ before m. q ∙ rw (eq-eqb (entry_wrong e) 0 (sym p ∙ z), sym (marked before m).finds ∙ sym f ∙ h);
          marks = λ before m n. subst (λ (x : List ℕ). Marks (before ++ (e ∷ [])) x) (sym l) (marked before m).marks;
        }

-- The entries from place i on.
module _ (es : List Entry) (i : ℕ) (h : i < length es) (d : Entry) {a : Written} (q : a ≡ entry_fault i (take i es) (get_or es i d)) where
  first : fault_from i (take i es) (drop i es) ≡ or_else a (fault_from (i + 1) (take i es ++ (get_or es i d ∷ [])) (drop (suc i) es))
  unfolding fault_from
  first = rw (drop-cons es i d h, q)

  pub fault-stop : (a.no ≡ 0 → ⊥) → fault_from i (take i es) (drop i es) ≡ a
  fault-stop z = first ∙ rw (ne_eqb a.no 0 z)

  pub fault-next : a.no ≡ 0 → fault_from i (take i es) (drop i es) ≡ fault_from (i + 1) (take (i + 1) es) (drop (i + 1) es)
  fault-next z = first ∙ rw (eq-eqb a.no 0 z, add-one i, take-suc es i d h)

  pub marks-next : (left : List ℕ) → Marks (take i es ++ (get_or es i d ∷ [])) left → Marks (take (i + 1) es) left
  marks-next left m = subst (λ (l : List Entry). Marks l left) (sym (ap (λ (k : ℕ). take k es) (add-one i) ∙ take-suc es i d h)) m

pub fault-end : (es before : List Entry) (i : ℕ) → length es ≤ i → fault_from i before (drop i es) ≡ wrote 0
unfolding fault_from
fault-end es before i h = rw (drop_of_length-le es h)

-- The places that are not used.
pub blank-all : (es : List Entry) → list_all is_blank es ≡ all_blank es
unfolding all_blank
blank-all [] = refl
blank-all (e ∷ es) = ap (λ (b : Bool). is_blank e && b) (blank-all es)

-- The tests of a table in their order.
module _ (r : Table) where
  pub over-many : {a : Written} → 36 < r.count → a ≡ refused 5 0 0 → a ≡ table_fault r
  unfolding table_fault
  over-many h q = q ∙ rw (lt-ltb 36 r.count h)

  module _ (h : r.count ≤ 36) {f : Written} (q : f ≡ fault_from 0 [] (take r.count r.entries)) where
    pub used-out : (f.no ≡ 0 → ⊥) → f ≡ table_fault r
    unfolding table_fault
    used-out z = rw (le-ltb 36 r.count h, ← q, ne_eqb f.no 0 z)

    module _ (z : f.no ≡ 0) {b : Bool} (p : b ≡ all_blank (drop r.count r.entries)) where
      pub good-out : {a : Written} → b ≡ true → a ≡ wrote 0 → a ≡ table_fault r
      unfolding table_fault
      good-out t e = e ∙ rw (le-ltb 36 r.count h, ← q, eq-eqb f.no 0 z, ← p, t)

      pub rest_out : {a : Written} → b ≡ false → a ≡ refused 5 0 0 → a ≡ table_fault r
      unfolding table_fault
      rest_out t e = e ∙ rw (le-ltb 36 r.count h, ← q, eq-eqb f.no 0 z, ← p, t)
