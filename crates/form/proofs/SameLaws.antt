-- One more law of a row: what is written of what was read is the same bytes. It stands apart from the others, since not every form keeps
-- it.
use Prim.Native.Nat.{◌+◌, ◌-◌, ◌<◌, suc, zero, ℕ}
use mathlib.Core.Bool.{Bool, false, true}
use mathlib.Core.List.{[], ◌∷◌, List}
use mathlib.Core.Path.{◌∙◌, ◌≡◌, ap, refl, subst, sym}
use native.Mathlib.Nat.{zero-add}
use native.Mathlib.Omega.{arith}
use lib.Dec.{ltb}
use lib.ListN.{get_or, length, get_or-append}
use borrow.Author.Tests.{ltb-false, ltb-true}
use Rattle.form.specs.Kind.{fields_for}
use Rattle.form.specs.Row.{◌▷◌, Form, made, one, only_if, Row}
use Rattle.form.proofs.Laws.{◌⊳◌, Begins, Lawful, lawful-one, LawfulForm, near-zero}

pub record SameForm {G X : Type 0} (f : Form G X) : Type 0 where
  pub same : (field : ℕ → List ℕ) → f.wrong (f.got field) ≡ 0 → Begins field 0 f.width (f.text (f.value (f.got field)))

pub record Same {G X : Type 0} (r : Row G X) : Type 0 where
  pub same : (field : ℕ → List ℕ) (n : ℕ) (rest : List (List ℕ)) → r.wrong (r.got field n) 0 0 ≡ 0
      → Begins field n r.width (r.text (r.value (r.got field n)) rest)

-- Lawful rows that keep the bytes, written like the rows themselves.
abbrev pub Keeps : {G X : Type 0} → Row G X → Type 0
Keeps r = Lawful r × Same r

-- Digits of a fixed width, that may not and that may be empty; and a form that stands only where it is on.
pub only-first : (field : ℕ → List ℕ) (t : List ℕ) → field 1 ≡ t → Begins field 0 1 (t ∷ [])
only-first field t e zero h = ap field (zero-add 1) ∙ e
only-first field t e (suc k) h = let z : ⊥ = omega arith in absurd z

pub same-only_if : {G X : Type 0} (none : G) (filled : X → ℕ) (f : Form G X) → SameForm f → (on : Bool) → SameForm (only_if on none filled f)
same-only_if none filled f s true = s
same-only_if none filled f s false = record { same = λ field e k h. let z : ⊥ = omega (arith, h) in absurd z }

-- A row of one form.
pub keeps-one : {G X : Type 0} {f : Form G X} → LawfulForm f → SameForm f → Keeps (one f)
keeps-one {f = f} l s = (
  lawful-one l,
  record {
    same = λ field n rest e k h.
        let own : ℕ → List ℕ = λ j. field (n + j) in
        let i : n + suc k ≡ n + (0 + suc k) = omega arith in
        let v = f.value (f.got own) in
        let within : k < length (f.text v) = omega (arith, l.count v, h) in
        ap field i ∙ s.same own (near-zero 0 _ 0 e).0 k h ∙ sym (get_or-append (f.text v) rest [] k within);
  },
)

-- One row, then another.
module _ {G X H Y : Type 0} {a : Row G X} {b : Row H Y} (p : Keeps a) (q : Keeps b) where
  joined : (field : ℕ → List ℕ) (n k : ℕ) (v : X) (after : List (List ℕ)) → Begins field n a.width (a.text v after)
      → ((j : ℕ) → j < b.width → field (n + a.width + suc j) ≡ get_or after j []) → k < a.width + b.width → (c : Bool)
      → ltb k a.width ≡ c → field (n + suc k) ≡ get_or (a.text v after) k []
  joined field n k v after first second h true c = first k (ltb-true k a.width c)
  joined field n k v after first second h false c =
      let l = ltb-false k a.width c in
      let i : n + suc k ≡ n + a.width + suc (k - a.width) = omega (arith, l) in
      let j : a.width + (k - a.width) ≡ k = omega (arith, l) in
      ap field i
      ∙ second (k - a.width) (omega (arith, l, h))
      ∙ sym (p.0.skip v after (k - a.width))
      ∙ ap (λ (x : ℕ). get_or (a.text v after) x []) j

  infixr 30 ◌⊜◌
  pub ◌⊜◌ : Keeps (a ▷ b)
  ◌⊜◌ = (
    p.0 ⊳ q.0,
    record {
      same = λ field n rest e k h.
          let g = a.got field n in
          let f = b.got field (n + a.width) in
          let x = (p.0.wrongs g).none 0 (b.wrong f (0 + a.width) 0) e in
          let y = (q.0.wrongs f).none (0 + a.width) 0 x.1 in
          let after = b.text (b.value f) rest in
          joined field n k (a.value g) after (p.1.same field n after x.0) (q.1.same field (n + a.width) rest y.0) h
          (ltb k a.width) refl;
    },
  )

-- The values of a row as a record.
pub same-made : {G X R : Type 0} (to : X → R) (from : R → X) (a : Row G X) (there : (v : X) → from (to v) ≡ v) → Same a → Same
    (made to from a)
same-made {X = X} to from a there s =
    record {
      same = λ field n rest e.
          subst (λ (v : X). Begins field n a.width (a.text v rest)) (sym (there (a.value (a.got field n)))) (s.same field n rest e);
    }

-- Lists that agree in every place are the same.
alike-lists : (s t : List (List ℕ)) → length s ≡ length t → ((k : ℕ) → k < length s → get_or s k [] ≡ get_or t k []) → s ≡ t
alike-lists [] [] e h = refl
alike-lists [] (x ∷ t) e h = let z : ⊥ = omega (arith, e) in absurd z
alike-lists (x ∷ s) [] e h = let z : ⊥ = omega (arith, e) in absurd z
alike-lists (x ∷ s) (y ∷ t) e h =
    let rest = alike-lists s t (omega (arith, e)) (λ k i. h (suc k) (omega (arith, i))) in
    ap (λ (z : List ℕ). z ∷ s) (h 0 (omega arith)) ∙ ap (λ (z : List (List ℕ)). y ∷ z) rest

-- The fields that are written of what was read of the fields fs, after the address a, are those fields.
pub fields-same : {G R : Type 0} (row : Row G R) → Keeps row → (a : List ℕ) (fs : List (List ℕ)) → length fs ≡ row.width
    → row.wrong (row.got (λ k. get_or (a ∷ fs) k []) 0) 0 0 ≡ 0 → fields_for row (row.value (row.got (λ k. get_or (a ∷ fs) k []) 0)) ≡ fs
unfolding fields_for
fields-same row p a fs n e =
    let field : ℕ → List ℕ = λ k. get_or (a ∷ fs) k [] in
    let v = row.value (row.got field 0) in
    let c : length fs ≡ length (row.text v []) = omega (arith, n, p.0.count v []) in
    sym (alike-lists fs (row.text v []) c (λ k h.
    ap field (sym (zero-add (suc k))) ∙ p.1.same field 0 [] e k (subst (λ (x : ℕ). k < x) n h)))
