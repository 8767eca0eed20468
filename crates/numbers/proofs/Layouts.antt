-- The laws of layouts, and that layouts put together of lawful ones are lawful: the numbers of a value that 32 bits hold are as many as it
-- says and hold it from any place on, and no other number is looked at.
use Prim.Native.Nat.{◌+◌, ◌<◌, suc, ℕ}
use mathlib.Core.Path.{◌∙◌, ◌≡◌, ap, refl, sym}
use mathlib.Core.List.{[], ◌++◌, ◌∷◌, append_assoc, List}
use mathlib.Core.Bool.{◌&&◌, Bool, false, true, true≢false}
use native.Mathlib.Omega.{arith}
use native.Mathlib.Nat.{add-zero, zero-add}
use lib.Dec.{lit<}
use lib.IntN.{pos, ℤ}
use lib.ListN.{get_or, length}
use Rattle.digits.specs.Pick.{pick}
use Rattle.numbers.specs.Numbers.{is_mark, is_there, mark_of, signed_of, whole_of}
use Rattle.numbers.specs.Layout.{◌then◌, Layout, marked, nothing, shaped, signed, whole}
use Rattle.numbers.proofs.Fitting.{signed_back, whole_back}

-- From place p on, l holds the first n of some numbers; and l and m are alike in n places from p on.
abbrev pub Holds : List ℤ → ℕ → ℕ → List ℤ → Type 0
Holds l p n numbers = (k : ℕ) → k < n → get_or l (p + k) (pos 0) ≡ get_or numbers k (pos 0)

abbrev pub Alike : List ℤ → List ℤ → ℕ → ℕ → Type 0
Alike l m p n = (k : ℕ) → k < n → get_or m (p + k) (pos 0) ≡ get_or l (p + k) (pos 0)

pub record LawfulLayout {X : Type 0} (a : Layout X) : Type 0 where
  pub back : (v : X) → a.held v ≡ true → (rest l : List ℤ) (p : ℕ) → Holds l p a.size (a.numbers v rest) → a.at l p ≡ v
  pub count : (v : X) (rest : List ℤ) → length (a.numbers v rest) ≡ a.size + length rest
  pub skip : (v : X) (rest : List ℤ) (k : ℕ) → get_or (a.numbers v rest) (a.size + k) (pos 0) ≡ get_or rest k (pos 0)
  pub own : (l m : List ℤ) (p : ℕ) → Alike l m p a.size → a.at m p ≡ a.at l p
  pub onto : (v : X) (rest : List ℤ) → a.numbers v rest ≡ a.numbers v [] ++ rest

pub and-true : (a b : Bool) → (a && b) ≡ true → (a ≡ true) × (b ≡ true)
and-true true b e = (refl, e)
and-true false b e = absurd (true≢false (sym e))

-- Places in two parts.
pub regrouped : (p m k : ℕ) → p + m + k ≡ p + (m + k)
regrouped p m k = omega arith

module _ (l : List ℤ) (p m n : ℕ) where
  pub holds-first : (ns : List ℤ) → Holds l p (m + n) ns → Holds l p m ns
  holds-first ns h k i = h k (omega arith)

  pub holds-second : (ns after : List ℤ) → Holds l p (m + n) ns → ((k : ℕ) → get_or ns (m + k) (pos 0) ≡ get_or after k (pos 0))
      → Holds l (p + m) n after
  holds-second ns after h s k i = ap (λ (j : ℕ). get_or l j (pos 0)) (regrouped p m k) ∙ h (m + k) (omega arith) ∙ s k

  pub alike-second : (o : List ℤ) → Alike l o p (m + n) → Alike l o (p + m) n
  alike-second o h k i =
      ap (λ (j : ℕ). get_or o j (pos 0)) (regrouped p m k) ∙ h (m + k) (omega arith)
      ∙ ap (λ (j : ℕ). get_or l j (pos 0)) (sym (regrouped p m k))

-- One number.
first : (l : List ℤ) (p : ℕ) (z : ℤ) (rest : List ℤ) → Holds l p 1 (z ∷ rest) → get_or l p (pos 0) ≡ z
first l p z rest h = ap (λ (k : ℕ). get_or l k (pos 0)) (sym (add-zero p)) ∙ h 0 (lit< tt)

alike-first : (l m : List ℤ) (p : ℕ) → Alike l m p 1 → get_or m p (pos 0) ≡ get_or l p (pos 0)
alike-first l m p h = ap (λ (k : ℕ). get_or m k (pos 0)) (sym (add-zero p)) ∙ h 0 (lit< tt) ∙ ap (λ (k : ℕ). get_or l k (pos 0)) (add-zero p)

later : (z : ℤ) (rest : List ℤ) (k : ℕ) → get_or (z ∷ rest) (1 + k) (pos 0) ≡ get_or rest k (pos 0)
later z rest k = let e : 1 + k ≡ suc k = omega arith in ap (λ (j : ℕ). get_or (z ∷ rest) j (pos 0)) e

lawful-single : {X : Type 0} (to : X → ℤ) (of : ℤ → X) (held : X → Bool) → ((v : X) → held v ≡ true → of (to v) ≡ v)
    → LawfulLayout (record { size = 1; numbers = λ v rest. to v ∷ rest; at = λ l p. of (get_or l p (pos 0)); held = held })
lawful-single to of held again =
    record {
      back = λ v e rest l p h. ap of (first l p (to v) rest h) ∙ again v e;
      count = λ v rest. omega arith;
      skip = λ v rest k. later (to v) rest k;
      own = λ l m p h. ap of (alike-first l m p h);
      onto = λ v rest. refl;
    }

pub lawful-nothing : LawfulLayout nothing
lawful-nothing =
    record {
      back = λ v e rest l p h. refl;
      count = λ v rest. sym (zero-add (length rest));
      skip = λ v rest k. ap (λ (j : ℕ). get_or rest j (pos 0)) (zero-add k);
      own = λ l m p h. refl;
      onto = λ v rest. refl;
    }

pub lawful-whole : LawfulLayout whole
lawful-whole = lawful-single pos whole_of whole.held whole_back

pub lawful-signed : LawfulLayout signed
lawful-signed = lawful-single (λ z. z) signed_of signed.held signed_back

-- One layout, then another.
infixr 30 ◌⊗◌
pub ◌⊗◌ : {X Y : Type 0} {a : Layout X} {b : Layout Y} → LawfulLayout a → LawfulLayout b → LawfulLayout (a then b)
◌⊗◌ {X = X} {Y = Y} {a = a} {b = b} f g =
    record {
      back = λ v e rest l p h.
          let w = and-true (a.held v.0) (b.held v.1) e in
          let after = b.numbers v.1 rest in
          let x = f.back v.0 w.0 after l p (holds-first l p a.size b.size (a.numbers v.0 after) h) in
          let behind = holds-second l p a.size b.size (a.numbers v.0 after) after h (f.skip v.0 after) in
          let y = g.back v.1 w.1 rest l (p + a.size) behind in
          rw (x, y);
      count = λ v rest. omega (arith, f.count v.0 (b.numbers v.1 rest), g.count v.1 rest);
      skip = λ v rest k.
          let after = b.numbers v.1 rest in
          ap (λ (j : ℕ). get_or (a.numbers v.0 after) j (pos 0)) (regrouped a.size b.size k)
          ∙ f.skip v.0 after (b.size + k) ∙ g.skip v.1 rest k;
      own = λ l m p h.
          let x = f.own l m p (λ k i. h k (omega arith)) in
          let y = g.own l m (p + a.size) (alike-second l p a.size b.size m h) in
          rw (x, y);
      onto = λ v rest.
          f.onto v.0 (b.numbers v.1 rest) ∙ ap (λ (l : List ℤ). a.numbers v.0 [] ++ l) (g.onto v.1 rest)
          ∙ sym (append_assoc (a.numbers v.0 []) (b.numbers v.1 []) rest)
          ∙ ap (λ (l : List ℤ). l ++ rest) (sym (f.onto v.0 (b.numbers v.1 [])));
    }

-- The same as a record.
pub lawful-shaped : {X R : Type 0} (to : X → R) (of : R → X) (a : Layout X) → ((r : R) → to (of r) ≡ r) → LawfulLayout a
    → LawfulLayout (shaped to of a)
lawful-shaped to of a again f =
    record {
      back = λ r e rest l p h. ap to (f.back (of r) e rest l p h) ∙ again r;
      count = λ r. f.count (of r);
      skip = λ r. f.skip (of r);
      own = λ l m p h. ap to (f.own l m p h);
      onto = λ r. f.onto (of r);
    }

-- A value behind its mark.
there-again : (b : Bool) → is_there (pos (mark_of b)) ≡ b
unfolding is_there
there-again true = refl
there-again false = refl

mark-again : (b : Bool) → is_mark (pos (mark_of b)) ≡ true
unfolding is_mark
mark-again true = refl
mark-again false = refl

abbrev marks : Layout Bool
marks = record { size = 1; numbers = λ b rest. pos (mark_of b) ∷ rest; at = λ l p. is_there (get_or l p (pos 0)); held = λ b. true }

lawful-marks : LawfulLayout marks
lawful-marks = lawful-single (λ b. pos (mark_of b)) is_there (λ b. true) (λ b e. there-again b)

pub lawful-marked : {X : Type 0} (spoilt : X) {a : Layout X} → LawfulLayout a → LawfulLayout (marked spoilt a)
lawful-marked {X = X} spoilt {a = a} f =
    record {
      back = λ v e rest l p h.
          let mark = pos (mark_of v.0) in
          let after = a.numbers v.1 rest in
          let z = first l p mark after (holds-first l p 1 a.size (mark ∷ after) h) in
          ap (λ (n : ℤ). (is_there (get_or l p (pos 0)), pick (is_mark n) (a.at l (p + 1)) spoilt)) z
          ∙ ap (λ (b : Bool). (is_there (get_or l p (pos 0)), pick b (a.at l (p + 1)) spoilt)) (mark-again v.0)
          ∙ q.back v e rest l p h;
      count = q.count;
      skip = q.skip;
      own = λ l m p h.
          let y = f.own l m (p + 1) (alike-second l p 1 a.size m h) in
          ap (λ (n : ℤ). (is_there n, pick (is_mark n) (a.at m (p + 1)) spoilt)) (alike-first l m p (λ k i. h k (omega arith)))
          ∙ ap (λ (x : X). (is_there (get_or l p (pos 0)), pick (is_mark (get_or l p (pos 0))) x spoilt)) y;
      onto = q.onto;
    }
  where
    q : LawfulLayout (marks then a)
    q = lawful-marks ⊗ f
