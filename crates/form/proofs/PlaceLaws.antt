-- The place of a 5. The field that is named is the first one after which nothing can mend the line: whatever stands after it, the same
-- field is wrong; and what stands before it can be completed to a line that is read.
use Prim.Native.Nat.{◌+◌, ◌-◌, ◌<◌, ◌≤◌, suc, ℕ}
use mathlib.Core.Bool.{Bool, false, true}
use mathlib.Core.List.{List}
use mathlib.Core.Path.{◌∙◌, ◌≡◌, ap, refl, subst, sym}
use native.Mathlib.Nat.{zero-add}
use native.Mathlib.Omega.{arith}
use lib.Dec.{eqb}
use borrow.Author.Tests.{eqb-false, eqb-true, ne_eqb}
use Rattle.form.specs.Row.{Form, made, one, only_if, Row}
use Rattle.form.specs.Wrong.{near_of}
use Rattle.form.proofs.Clean.{Clean}
use Rattle.form.proofs.Laws.{of_one}
use Rattle.numbers.specs.Layout.{Layout}

-- Fields that are the same in the first w of some places: of a form's own, `suc`; of those after the first n.
abbrev pub Agree : (ℕ → List ℕ) → (ℕ → List ℕ) → (ℕ → ℕ) → ℕ → Type 0
Agree field other at w = (j : ℕ) → j < w → other (at j) ≡ field (at j)

abbrev pub after : ℕ → ℕ → ℕ
after n j = n + suc j

-- The field that a form names, and a row behind n fields, or 0.
abbrev pub named : {G X : Type 0} → Form G X → (ℕ → List ℕ) → ℕ
named f field = f.wrong (f.got field)

abbrev pub named_at : {G X : Type 0} → Row G X → ℕ → (ℕ → List ℕ) → ℕ
named_at r n field = r.wrong (r.got field n) 0 0

-- Fields that stand as before in front of the k-th of w places, are clean from there on, and are not wrong.
pub record Completed (wrong : (ℕ → List ℕ) → ℕ) (field : ℕ → List ℕ) (at : ℕ → ℕ) (w k : ℕ) : Type 0 where
  pub other : ℕ → List ℕ
  pub before : (j : ℕ) → suc j < k → other (at j) ≡ field (at j)
  pub clean : (j : ℕ) → j < w → k ≤ suc j → Clean (other (at j))
  pub accepted : wrong other ≡ 0

-- A form reads its own fields only, and names one of them; the fields up to that one decide it; those before it can be completed, but for
-- exceptions that it lists; and there are fields that it reads.
pub record PrefixFormBut {G X : Type 0} (f : Form G X) (usual : (ℕ → List ℕ) → Type 0) : Type 0 where
  pub own : (field other : ℕ → List ℕ) → Agree field other suc f.width → f.got other ≡ f.got field
  pub within : (field : ℕ → List ℕ) → named f field ≤ f.width
  pub stays : (field other : ℕ → List ℕ) → 0 < named f field → Agree field other suc (named f field) → named f other ≡ named f field
  pub completed : (field : ℕ → List ℕ) → 0 < named f field → usual field → Completed (named f) field suc f.width (named f field)
  pub fresh : (field : ℕ → List ℕ) → Completed (named f) field suc f.width 1

-- A row: the same of its fields in their places, and where it stands moves the number only.
pub record PrefixBut {G X : Type 0} (r : Row G X) (usual : (ℕ → List ℕ) → ℕ → Type 0) : Type 0 where
  pub near : (g : G) (n rest : ℕ) → r.wrong g n rest ≡ near_of n (r.wrong g 0 0) rest
  pub own : (field other : ℕ → List ℕ) (n : ℕ) → Agree field other (after n) r.width → r.got other n ≡ r.got field n
  pub within : (field : ℕ → List ℕ) (n : ℕ) → named_at r n field ≤ r.width
  pub stays : (field other : ℕ → List ℕ) (n : ℕ) → 0 < named_at r n field → Agree field other (after n) (named_at r n field)
      → named_at r n other ≡ named_at r n field
  pub completed : (field : ℕ → List ℕ) (n : ℕ) → 0 < named_at r n field → usual field n
      → Completed (named_at r n) field (after n) r.width (named_at r n field)
  pub fresh : (field : ℕ → List ℕ) (n : ℕ) → Completed (named_at r n) field (after n) r.width 1

-- Without exceptions.
abbrev pub PrefixForm : {G X : Type 0} → Form G X → Type 0
PrefixForm f = PrefixFormBut f (λ field. Unit {0})

abbrev pub Prefix : {G X : Type 0} → Row G X → Type 0
Prefix r = PrefixBut r (λ field n. Unit {0})

-- With fewer cases that are usual.
pub eased : {G X : Type 0} {r : Row G X} {few many : (ℕ → List ℕ) → ℕ → Type 0}
    → ((field : ℕ → List ℕ) (n : ℕ) → few field n → many field n) → PrefixBut r many → PrefixBut r few
eased to p =
    record {
      near = p.near;
      own = p.own;
      within = p.within;
      stays = p.stays;
      completed = λ field n h u. p.completed field n h (to field n u);
      fresh = p.fresh;
    }

-- The values of a row as a record: its fields are the same. `there` is asked so that `to` is found where a kind leaves it out.
pub prefix-made : {G X R : Type 0} (to : X → R) (from : R → X) (a : Row G X) (there : (v : X) → from (to v) ≡ v)
    {usual : (ℕ → List ℕ) → ℕ → Type 0} → PrefixBut a usual → PrefixBut (made to from a) usual
prefix-made to from a there p =
    record { near = p.near; own = p.own; within = p.within; stays = p.stays; completed = p.completed; fresh = p.fresh }

-- Fields put in place of all.
pub anew : {wrong : (ℕ → List ℕ) → ℕ} {field : ℕ → List ℕ} {at : ℕ → ℕ} {w : ℕ} (other : ℕ → List ℕ)
    → ((j : ℕ) → j < w → Clean (other (at j))) → wrong other ≡ 0 → Completed wrong field at w 1
anew other c e =
    record { other = other; before = λ j h. let z : ⊥ = omega arith in absurd z; clean = λ j h k. c j h; accepted = e }

-- A form of one field: it names no other, and a text that it reads is enough.
pub prefix-narrow : {G X : Type 0} (f : Form G X) → f.width ≡ 1
    → ((field other : ℕ → List ℕ) → other 1 ≡ field 1 → f.got other ≡ f.got field) → ((field : ℕ → List ℕ) → named f field ≤ 1)
    → (s : List ℕ) → Clean s → named f (λ k. s) ≡ 0 → PrefixForm f
prefix-narrow f wide own few s c good =
    record {
      own = λ field other a. own field other (a 0 (omega (arith, wide)));
      within = λ field. omega (arith, wide, few field);
      stays = λ field other h a. ap f.wrong (own field other (a 0 h));
      completed = λ field h u.
          let one : 1 ≡ named f field = omega (arith, few field) in
          subst (Completed (named f) field suc f.width) one (anew (λ k. s) (λ j i. c) good);
      fresh = λ field. anew (λ k. s) (λ j i. c) good;
    }

pub prefix-single : {G X : Type 0} {most : ℕ} {layout : Layout X} (read : List ℕ → G) {wrong : G → ℕ} {value : G → X}
    {fault : X → ℕ} {text : X → List ℕ}
    → ((s : List ℕ) → wrong (read s) ≤ 1) → (s : List ℕ) → Clean s → wrong (read s) ≡ 0
    → PrefixForm (of_one most layout read wrong value fault text)
prefix-single {most = most} {layout = layout} read {wrong} {value} {fault} {text} few s c good =
    prefix-narrow (of_one most layout read wrong value fault text) refl (λ field other e. ap read e) (λ field. few (field 1)) s c good

-- A form that stands only where it is on; else it has no field to name.
pub prefix-only_if : {G X : Type 0} (none : G) (filled : X → ℕ) (f : Form G X) → f.wrong none ≡ 0 → PrefixForm f → (on : Bool)
    → PrefixForm (only_if on none filled f)
prefix-only_if none filled f good p true = p
prefix-only_if none filled f good p false =
    record {
      own = λ field other a. refl;
      within = λ field. omega (arith, good);
      stays = λ field other h a. refl;
      completed = λ field h u. let z : ⊥ = omega (arith, good) in absurd z;
      fresh = λ field. anew field (λ j h. let z : ⊥ = omega arith in absurd z) good;
    }

-- The first wrong field.
pub near_none : (n w rest : ℕ) → w ≡ 0 → near_of n w rest ≡ rest
unfolding near_of
near_none n w rest e = rw e

pub near-some : (n w rest : ℕ) → 0 < w → near_of n w rest ≡ n + w
unfolding near_of
near-some n w rest h = rw (ne_eqb w 0 (λ e. omega arith))

near-own : (w : ℕ) → near_of 0 w 0 ≡ w
near-own w = go (eqb w 0) refl
  where
    go : (t : Bool) → eqb w 0 ≡ t → near_of 0 w 0 ≡ w
    go true e = near_none 0 w 0 (eqb-true w 0 e) ∙ sym (eqb-true w 0 e)
    go false e = let n = eqb-false w 0 e in near-some 0 w 0 (omega (arith, n)) ∙ zero-add w

-- A row of one form.
module _ {G X : Type 0} {f : Form G X} {usual : (ℕ → List ℕ) → Type 0} (l : PrefixFormBut f usual) where
  -- Its own fields, put in their places.
  shifted : (o : ℕ → List ℕ) (n j : ℕ) → o (n + suc j - n) ≡ o (suc j)
  shifted o n j = let e : n + suc j - n ≡ suc j = omega arith in ap o e

  moved : (field : ℕ → List ℕ) (n k : ℕ) → Completed (named f) (λ j. field (n + j)) suc f.width k
      → Completed (named_at (one f) n) field (after n) f.width k
  moved field n k c =
      let o = l.own c.other (λ j. c.other (n + j - n)) (λ j h. shifted c.other n j) in
      record {
        other = λ j. c.other (j - n);
        before = λ j h. shifted c.other n j ∙ c.before j h;
        clean = λ j h i. subst Clean (sym (shifted c.other n j)) (c.clean j h i);
        accepted = near-own _ ∙ ap f.wrong o ∙ c.accepted;
      }

  pub prefix-one : PrefixBut (one f) (λ field n. usual (λ k. field (n + k)))
  prefix-one =
      record {
        near = λ g n rest. ap (λ (w : ℕ). near_of n w rest) (sym (near-own (f.wrong g)));
        own = λ field other n a. l.own (λ k. field (n + k)) (λ k. other (n + k)) a;
        within = λ field n. omega (arith, near-own (named f (λ k. field (n + k))), l.within (λ k. field (n + k)));
        stays = λ field other n h a.
            let e = near-own (named f (λ k. field (n + k))) in
            let s = l.stays (λ k. field (n + k)) (λ k. other (n + k)) (omega (arith, e)) (λ j i. a j (omega (arith, e))) in
            near-own _ ∙ s ∙ sym e;
        completed = λ field n h u.
            let e = near-own (named f (λ k. field (n + k))) in
            let c = l.completed (λ k. field (n + k)) (omega (arith, e)) u in
            moved field n _ (subst (Completed (named f) (λ k. field (n + k)) suc f.width) (sym e) c);
        fresh = λ field n. moved field n 1 (l.fresh (λ k. field (n + k)));
      }
