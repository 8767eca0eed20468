-- The laws of a form and of a row, and that rows put together of lawful rows are lawful. Proved once, for every kind of sentence.
use Prim.Native.Nat.{◌+◌, ◌<◌, ◌≤◌, suc, zero, ℕ}
use mathlib.Core.Bool.{Bool, cond, false, true}
use mathlib.Core.List.{[], ◌++◌, ◌∷◌, List}
use mathlib.Core.Path.{◌∙◌, ◌≡◌, ap, refl, subst, sym}
use native.Mathlib.Nat.{add_comm, add-zero, zero-add}
use native.Mathlib.Numerals.{add-one}
use native.Mathlib.Omega.{arith}
use lib.Dec.{eqb, lit<, lit≤}
use lib.ListN.{get_or, length, length-append, get_or-append}
use lib.Seq.{get_or-append-add}
use borrow.Author.Tests.{eqb-false, eqb-true}
use Rattle.form.specs.Row.{◌▷◌, depending, Form, made, measured, one, only_if, Row, unit_after}
use Rattle.form.specs.Values.{unit_field}
use Rattle.form.specs.Wrong.{near_of}
use Rattle.form.proofs.Clean.{clean-all-append, CleanAll}
use Rattle.form.proofs.CleanTexts.{field-unit, long-unit, total, total-append}
use Rattle.form.proofs.Ranged.{unit-short}
use Rattle.form.proofs.Values.{unit-back}
use Rattle.numbers.specs.Layout.{Layout, nothing}

-- The bytes of w fields after the first n, each with its comma.
abbrev pub bytes : (ℕ → List ℕ) → ℕ → ℕ → ℕ
bytes field n zero = 0
bytes field n (suc w) = suc (length (field (n + 1)) + bytes field (n + 1) w)

-- The fields after the first n begin with the first w of some texts.
abbrev pub Begins : (ℕ → List ℕ) → ℕ → ℕ → List (List ℕ) → Type 0
Begins field n w texts = (k : ℕ) → k < w → field (n + suc k) ≡ get_or texts k []

-- A form: what is written of a value in range reads as that value; what was read is in range; its texts are as many as it says, fit to
-- stand in a body, and so long at most.
pub record LawfulForm {G X : Type 0} (f : Form G X) : Type 0 where
  pub back : (v : X) → f.fault v ≡ 0 → (field : ℕ → List ℕ) → Begins field 0 f.width (f.text v)
      → (f.wrong (f.got field) ≡ 0) × (f.value (f.got field) ≡ v)
  pub sound : (field : ℕ → List ℕ) → f.wrong (f.got field) ≡ 0 → f.fault (f.value (f.got field)) ≡ 0
  pub count : (v : X) → length (f.text v) ≡ f.width
  pub clean : (v : X) → f.fault v ≡ 0 → CleanAll (f.text v)
  pub long : (v : X) → f.fault v ≡ 0 → total (f.text v) ≤ f.most

-- One more law, for kinds whose line may be too long: what is written of what was read is no longer than the fields were.
pub record ShortForm {G X : Type 0} (f : Form G X) : Type 0 where
  pub short : (field : ℕ → List ℕ) → f.wrong (f.got field) ≡ 0 → total (f.text (f.value (f.got field))) ≤ bytes field 0 f.width

-- A first wrong field, by how many stand before and the first wrong one after: there is none exactly where there is none in it and after
-- it, wherever it stands.
pub record Counts (w : ℕ → ℕ → ℕ) : Type 0 where
  pub none : (n rest : ℕ) → w n rest ≡ 0 → (w 0 0 ≡ 0) × (rest ≡ 0)
  pub moved : (n : ℕ) → w 0 0 ≡ 0 → w n 0 ≡ 0

-- A row: the same of its fields in their places.
pub record Lawful {G X : Type 0} (r : Row G X) : Type 0 where
  pub wrongs : (g : G) → Counts (r.wrong g)
  pub faults : (v : X) → Counts (r.fault v)
  pub back : (v : X) → r.fault v 0 0 ≡ 0 → (field : ℕ → List ℕ) (n : ℕ) (rest : List (List ℕ)) → Begins field n r.width (r.text v rest)
      → (r.wrong (r.got field n) 0 0 ≡ 0) × (r.value (r.got field n) ≡ v)
  pub sound : (field : ℕ → List ℕ) (n : ℕ) → r.wrong (r.got field n) 0 0 ≡ 0 → r.fault (r.value (r.got field n)) 0 0 ≡ 0
  pub count : (v : X) (rest : List (List ℕ)) → length (r.text v rest) ≡ r.width + length rest
  pub skip : (v : X) (rest : List (List ℕ)) (k : ℕ) → get_or (r.text v rest) (r.width + k) [] ≡ get_or rest k []
  pub clean : (v : X) (rest : List (List ℕ)) → r.fault v 0 0 ≡ 0 → CleanAll rest → CleanAll (r.text v rest)
  pub long : (v : X) (rest : List (List ℕ)) → r.fault v 0 0 ≡ 0 → total (r.text v rest) ≤ r.most + total rest

pub record Short {G X : Type 0} (r : Row G X) : Type 0 where
  pub short : (field : ℕ → List ℕ) (n : ℕ) (rest : List (List ℕ)) → r.wrong (r.got field n) 0 0 ≡ 0
      → total (r.text (r.value (r.got field n)) rest) ≤ bytes field n r.width + total rest

-- Both laws of a row.
abbrev pub Tight : {G X : Type 0} → Row G X → Type 0
Tight r = Lawful r × Short r

-- Counting.
pub near-zero : (n w rest : ℕ) → near_of n w rest ≡ 0 → (w ≡ 0) × (rest ≡ 0)
unfolding near_of
near-zero n w rest e = go (eqb w 0) refl e
  where
    go : (t : Bool) → eqb w 0 ≡ t → cond t rest (n + w) ≡ 0 → (w ≡ 0) × (rest ≡ 0)
    go true q i = (eqb-true w 0 q, i)
    go false q i = let z : w ≡ 0 = omega (arith, i) in absurd (eqb-false w 0 q z)

pub zero-near : (n w : ℕ) → w ≡ 0 → near_of n w 0 ≡ 0
unfolding near_of
zero-near n w e = rw e

counts-near : (w : ℕ) → Counts (λ n rest. near_of n w rest)
counts-near w =
    record {
      none = λ n rest e. let z = near-zero n w rest e in (zero-near 0 w z.0, z.1);
      moved = λ n e. zero-near n w (near-zero 0 w 0 e).0;
    }

counts-both : {v w : ℕ → ℕ → ℕ} (a : ℕ) → Counts v → Counts w → Counts (λ n rest. v n (w (n + a) rest))
counts-both {v} {w} a p q =
    record {
      none = λ n rest e.
          let x = p.none n (w (n + a) rest) e in
          let y = q.none (n + a) rest x.1 in
          (ap (v 0) (q.moved (0 + a) y.0) ∙ x.0, y.1);
      moved = λ n e.
          let x = p.none 0 (w (0 + a) 0) e in
          let y = q.none (0 + a) 0 x.1 in
          ap (v n) (q.moved (n + a) y.0) ∙ p.moved n x.0;
    }

-- Bytes of fields.
bytes-moved : (field : ℕ → List ℕ) (n m w : ℕ) → bytes (λ k. field (n + k)) m w ≡ bytes field (n + m) w
bytes-moved field n m zero = refl
bytes-moved field n m (suc w) =
    let e : n + (m + 1) ≡ n + m + 1 = omega arith in
    ap (λ (k : ℕ). suc (length (field (n + (m + 1))) + k)) (bytes-moved field n (m + 1) w)
    ∙ ap (λ (k : ℕ). suc (length (field k) + bytes field k w)) e

bytes-both : (field : ℕ → List ℕ) (n a b : ℕ) → bytes field n (a + b) ≡ bytes field n a + bytes field (n + a) b
bytes-both field n zero b = rw (zero-add b, add-zero n, zero-add (bytes field n b))
bytes-both field n (suc a) b =
    let s : suc a + b ≡ suc (a + b) = omega arith in
    let e : n + 1 + a ≡ n + suc a = omega arith in
    let i : bytes field (n + 1) (a + b) ≡ bytes field (n + 1) a + bytes field (n + suc a) b =
    bytes-both field (n + 1) a b ∙ ap (λ (k : ℕ). bytes field (n + 1) a + bytes field k b) e in
    ap (bytes field n) s ∙ omega (arith, i)

-- A form of one field, by what the field reads as.
abbrev pub of_one : {G X : Type 0} → ℕ → Layout X → (List ℕ → G) → (G → ℕ) → (G → X) → (X → ℕ) → (X → List ℕ) → Form G X
of_one most layout read wrong value fault text =
    record {
      width = 1;
      most = most;
      got = λ field. read (field 1);
      wrong = wrong;
      value = value;
      fault = fault;
      text = λ v. text v ∷ [];
      layout = layout;
    }

-- A row of one form.
module _ {G X : Type 0} {f : Form G X} (l : LawfulForm f) where
  own : (v : X) (field : ℕ → List ℕ) (n : ℕ) (rest : List (List ℕ)) → Begins field n f.width (f.text v ++ rest)
      → Begins (λ k. field (n + k)) 0 f.width (f.text v)
  own v field n rest b k h =
      let z : n + (0 + suc k) ≡ n + suc k = omega arith in
      let i : k < length (f.text v) = omega (arith, l.count v) in
      ap field z ∙ b k h ∙ get_or-append (f.text v) rest [] k i

  pub lawful-one : Lawful (one f)
  lawful-one =
      record {
        wrongs = λ g. counts-near (f.wrong g);
        faults = λ v. counts-near (f.fault v);
        back = λ v e field n rest b.
            let i = l.back v (near-zero 0 (f.fault v) 0 e).0 (λ k. field (n + k)) (own v field n rest b) in
            (zero-near 0 (f.wrong (f.got (λ k. field (n + k)))) i.0, i.1);
        sound = λ field n e. zero-near 0 _ (l.sound (λ k. field (n + k)) (near-zero 0 _ 0 e).0);
        count = λ v rest. length-append (f.text v) rest ∙ ap (λ (k : ℕ). k + length rest) (l.count v);
        skip = λ v rest k.
            ap (λ (w : ℕ). get_or (f.text v ++ rest) (w + k) []) (sym (l.count v)) ∙ get_or-append-add (f.text v) rest k [];
        clean = λ v rest e c. clean-all-append (f.text v) rest (l.clean v (near-zero 0 (f.fault v) 0 e).0) c;
        long = λ v rest e. omega (arith, total-append (f.text v) rest, l.long v (near-zero 0 (f.fault v) 0 e).0);
      }

pub short-one : {G X : Type 0} {f : Form G X} → ShortForm f → Short (one f)
short-one {f = f} l =
    record {
      short = λ field n rest e.
          let own : ℕ → List ℕ = λ k. field (n + k) in
          let moved = bytes-moved field n 0 f.width ∙ ap (λ (k : ℕ). bytes field k f.width) (add-zero n) in
          omega (arith, total-append (f.text (f.value (f.got own))) rest, l.short own (near-zero 0 _ 0 e).0, moved);
    }

pub tight-one : {G X : Type 0} {f : Form G X} → LawfulForm f → ShortForm f → Tight (one f)
tight-one l s = (lawful-one l, short-one s)

-- A form that stands only where it is on.
module _ {G X : Type 0} (none : G) (filled : X → ℕ) (f : Form G X) (good : f.wrong none ≡ 0)
    (blank : (v : X) → filled v ≡ 0 → f.value none ≡ v) (unfilled : filled (f.value none) ≡ 0) where
  pub lawful-only_if : LawfulForm f → (on : Bool) → LawfulForm (only_if on none filled f)
  lawful-only_if l true = l
  lawful-only_if l false =
      record {
        back = λ v e field b. (good, blank v e);
        sound = λ field e. unfilled;
        count = λ v. refl;
        clean = λ v e. tt;
        long = λ v e. omega arith;
      }

-- One row, then another that depends on it.
module _ {K G X H Y : Type 0} (w m : ℕ) (y : Layout Y) (found : G → K) (held : X → K) (a : Row G X) (b : K → Row H Y)
    (wide : (k : K) → (b k).width ≡ w) (large : (k : K) → (b k).most ≤ m) (same : (g : G) → held (a.value g) ≡ found g)
    (p : Lawful a) (q : (k : K) → Lawful (b k)) where
  abbrev both : Row (G × H) (X × Y)
  both = depending w m y found held a b

  parts : (v : X × Y) → both.fault v 0 0 ≡ 0 → (a.fault v.0 0 0 ≡ 0) × ((b (held v.0)).fault v.1 0 0 ≡ 0)
  parts v e =
      let x = (p.faults v.0).none 0 ((b (held v.0)).fault v.1 (0 + a.width) 0) e in
      (x.0, (((q (held v.0)).faults v.1).none (0 + a.width) 0 x.1).0)

  read-parts : (g : G × H) → both.wrong g 0 0 ≡ 0 → (a.wrong g.0 0 0 ≡ 0) × ((b (found g.0)).wrong g.1 0 0 ≡ 0)
  read-parts g e =
      let x = (p.wrongs g.0).none 0 ((b (found g.0)).wrong g.1 (0 + a.width) 0) e in
      (x.0, (((q (found g.0)).wrongs g.1).none (0 + a.width) 0 x.1).0)

  -- The second row's fields, where the first row's are found; read with the key of the value.
  second : (v : X × Y) (field : ℕ → List ℕ) (n : ℕ) (rest : List (List ℕ)) → Begins field n (a.width + w) (both.text v rest)
      → Begins field (n + a.width) (b (held v.0)).width ((b (held v.0)).text v.1 rest)
  second v field n rest h k i =
      let e : n + a.width + suc k ≡ n + suc (a.width + k) = omega arith in
      ap field e ∙ h (a.width + k) (omega (arith, wide (held v.0))) ∙ p.skip v.0 ((b (held v.0)).text v.1 rest) k

  second_back : (v : X × Y) → (b (held v.0)).fault v.1 0 0 ≡ 0 → (field : ℕ → List ℕ) (n : ℕ) (rest : List (List ℕ))
      → Begins field n (a.width + w) (both.text v rest) → (k : K) → held v.0 ≡ k
      → ((b k).wrong ((b k).got field (n + a.width)) 0 0 ≡ 0) × ((b k).value ((b k).got field (n + a.width)) ≡ v.1)
  second_back v e field n rest h k s =
      subst (λ (j : K). ((b j).wrong ((b j).got field (n + a.width)) 0 0 ≡ 0) × ((b j).value ((b j).got field (n + a.width)) ≡ v.1)) s
      ((q (held v.0)).back v.1 e field (n + a.width) rest (second v field n rest h))

  pub lawful-depending : Lawful both
  lawful-depending =
      record {
        wrongs = λ g. counts-both a.width (p.wrongs g.0) ((q (found g.0)).wrongs g.1);
        faults = λ v. counts-both a.width (p.faults v.0) ((q (held v.0)).faults v.1);
        back = λ v e field n rest h.
            let z = parts v e in
            let x = p.back v.0 z.0 field n ((b (held v.0)).text v.1 rest) (λ k i. h k (omega arith)) in
            let k = found (a.got field n) in
            let y = second_back v z.1 field n rest h k (ap held (sym x.1) ∙ same (a.got field n)) in
            let r = ((q k).wrongs ((b k).got field (n + a.width))).moved (0 + a.width) y.0 in
            (ap (a.wrong (a.got field n) 0) r ∙ x.0, rw (x.1, y.1));
        sound = λ field n e.
            let g = a.got field n in
            let y = (b (found g)).value ((b (found g)).got field (n + a.width)) in
            let z = read-parts (g, (b (found g)).got field (n + a.width)) e in
            let s = subst (λ (k : K). (b k).fault y 0 0 ≡ 0) (sym (same g)) ((q (found g)).sound field (n + a.width) z.1) in
            ap (a.fault (a.value g) 0) (((q (held (a.value g))).faults y).moved (0 + a.width) s) ∙ p.sound field n z.0;
        count = λ v rest.
            let k = held v.0 in
            omega (arith, p.count v.0 ((b k).text v.1 rest), (q k).count v.1 rest, wide k);
        skip = λ v rest j.
            let k = held v.0 in
            let e : a.width + w + j ≡ a.width + ((b k).width + j) = omega (arith, wide k) in
            ap (λ (i : ℕ). get_or (both.text v rest) i []) e
            ∙ p.skip v.0 ((b k).text v.1 rest) ((b k).width + j)
            ∙ (q k).skip v.1 rest j;
        clean = λ v rest e c.
            let k = held v.0 in
            let z = parts v e in
            p.clean v.0 ((b k).text v.1 rest) z.0 ((q k).clean v.1 rest z.1 c);
        long = λ v rest e.
            let k = held v.0 in
            let z = parts v e in
            omega (arith, p.long v.0 ((b k).text v.1 rest) z.0, (q k).long v.1 rest z.1, large k);
      }

  pub short-depending : Short a → ((k : K) → Short (b k)) → Short both
  short-depending p' q' =
      record {
        short = λ field n rest e.
            let g = a.got field n in
            let y = (b (found g)).value ((b (found g)).got field (n + a.width)) in
            let z = read-parts (g, (b (found g)).got field (n + a.width)) e in
            let s = ap (λ (k : K). total ((b k).text y rest)) (same g) in
            let i = ap (bytes field (n + a.width)) (wide (found g)) in
            let x = p'.short field n ((b (held (a.value g))).text y rest) z.0 in
            omega (arith, x, (q' (found g)).short field (n + a.width) rest z.1, s, i, bytes-both field n a.width w);
      }

-- The values of a row as a record.
module _ {G X R : Type 0} (to : X → R) (from : R → X) (a : Row G X) (there : (v : X) → from (to v) ≡ v)
    (again : (r : R) → to (from r) ≡ r) where
  pub lawful-made : Lawful a → Lawful (made to from a)
  lawful-made p =
      record {
        wrongs = p.wrongs;
        faults = λ r. p.faults (from r);
        back = λ r e field n rest h. let x = p.back (from r) e field n rest h in (x.0, ap to x.1 ∙ again r);
        sound = λ field n e. subst (λ (v : X). a.fault v 0 0 ≡ 0) (sym (there (a.value (a.got field n)))) (p.sound field n e);
        count = λ r. p.count (from r);
        skip = λ r. p.skip (from r);
        clean = λ r. p.clean (from r);
        long = λ r. p.long (from r);
      }

  pub short-made : Short a → Short (made to from a)
  short-made p =
      record {
        short = λ field n rest e.
            subst (λ (v : X). total (a.text v rest) ≤ bytes field n a.width + total rest) (sym (there (a.value (a.got field n))))
            (p.short field n rest e);
      }

  pub tight-made : Tight a → Tight (made to from a)
  tight-made p = (lawful-made p.0, short-made p.1)

-- A value with its unit.
lawful-unit : (letter : ℕ) (there : Bool) → 44 < letter → letter < 92 → Lawful (unit_after letter there)
lawful-unit letter there low high =
    record {
      wrongs = λ g. counts-near g;
      faults = λ v. record { none = λ n rest e. (refl, e); moved = λ n e. refl };
      back = λ v e field n rest h. (zero-near 0 _ (rw (h 0 (lit< tt)) (unit-back there letter)), refl);
      sound = λ field n e. refl;
      count = λ v rest. omega arith;
      skip = λ v rest k. ap (λ (j : ℕ). get_or (unit_field there letter ∷ rest) j []) (add_comm 1 k ∙ add-one k);
      clean = λ v rest e c. (field-unit there letter low high, c);
      long = λ v rest e. omega (arith, long-unit there letter);
    }

short-unit : (letter : ℕ) (there : Bool) → Short (unit_after letter there)
short-unit letter there =
    record {
      short = λ field n rest e. omega (arith, unit-short (field (n + 1)) there letter (near-zero 0 _ 0 e).0);
    }

module _ {G X : Type 0} (letter : ℕ) (found : G → Bool) (held : X → Bool) (a : Row G X) (low : 44 < letter) (high : letter < 92)
    (same : (g : G) → held (a.value g) ≡ found g) where
  abbrev unit_for : Bool → Row ℕ (Unit {0})
  unit_for = unit_after letter

  lawful-for : (there : Bool) → Lawful (unit_for there)
  lawful-for there = lawful-unit letter there low high

  pub lawful-measured : Lawful a → Lawful (measured letter found held a)
  lawful-measured p =
      lawful-made (λ v. v.0) (λ v. (v, tt)) (depending 1 2 nothing found held a unit_for) (λ v. refl) (λ v. refl)
      (lawful-depending 1 2 nothing found held a unit_for (λ k. refl) (λ k. lit≤ tt) same p lawful-for)

  pub tight-measured : Tight a → Tight (measured letter found held a)
  tight-measured p = (
    lawful-measured p.0,
    short-made (λ v. v.0) (λ v. (v, tt)) (depending 1 2 nothing found held a unit_for) (λ v. refl) (λ v. refl)
        (short-depending 1 2 nothing found held a unit_for (λ k. refl) (λ k. lit≤ tt) same p.0 lawful-for p.1 (short-unit letter)),
  )

-- Lawful rows, written like the rows themselves; and with the law of lengths.
infixr 30 ◌⊳◌
pub ◌⊳◌ : {G X H Y : Type 0} {a : Row G X} {b : Row H Y} → Lawful a → Lawful b → Lawful (a ▷ b)
◌⊳◌ {a = a} {b = b} p q =
    lawful-depending {K = Unit {0}} b.width b.most b.layout (λ g. tt) (λ v. tt) a (λ k. b) (λ k. refl) (λ k. omega arith)
    (λ g. refl)
    p (λ k. q)

infixr 30 ◌⊵◌
pub ◌⊵◌ : {G X H Y : Type 0} {a : Row G X} {b : Row H Y} → Tight a → Tight b → Tight (a ▷ b)
◌⊵◌ {a = a} {b = b} p q = (
  p.0 ⊳ q.0,
  short-depending {K = Unit {0}} b.width b.most b.layout (λ g. tt) (λ v. tt) a (λ k. b) (λ k. refl) (λ k. omega arith)
      (λ g. refl) p.0 (λ k. q.0) p.1 (λ k. q.1),
)
