-- Numbers that are accepted stand in one form only: where the value that they hold has no fault, its numbers are those again. A number that
-- is no mark, or that 32 bits do not hold, is held as a value outside its range; so form by form, and for rows of forms.
use Prim.Native.Nat.{◌%◌, ◌+◌, ◌/◌, ◌<◌, ◌≤◌, ℕ}
use mathlib.Core.Path.{◌∙◌, ◌≡◌, ap, refl, subst, sym}
use mathlib.Core.Bool.{◌&&◌, Bool, cond, false, not, true, true≢false}
use mathlib.Core.List.{◌∷◌, List}
use native.Mathlib.Omega.{arith}
use native.Mathlib.Nat.{add-zero}
use native.Mathlib.Numerals.{add-one}
use borrow.Author.Tests.{eqb-false, eqb-true, leb-true}
use lib.Dec.{eqb, leb, lit<}
use lib.IntN.{nat_abs, negsuc, pos, ℤ}
use lib.ListN.{drop, length}
use lib.Seq.{drop-cons}
use lib.Signed.{lt_z}
use Rattle.digits.specs.Pick.{pick}
use Rattle.form.specs.Row.{◌▷◌, depending, Form, measured, one, Row, unit_after}
use Rattle.form.specs.Values.{is_missing, outside, range_wrong, signed_wrong}
use Rattle.form.specs.Numbers.{maybe_layout}
use Rattle.form.specs.declared.Maybe.{Maybe}
use Rattle.form.proofs.Clean.{Clean}
use Rattle.form.proofs.Laws.{near-zero}
use Rattle.form.proofs.Signed.{first-zero, signed-in, signed-none}
use Rattle.form.proofs.Values.{inside}
use Rattle.form_date.specs.Calendar.{is_date}
use Rattle.form_date.specs.Numbers.{date_layout}
use Rattle.form_date.specs.Values.{six_wrong, three_wrong}
use Rattle.form_date.proofs.CalendarLaws.{date-ranges}
use Rattle.form_letter.specs.Letters.{letter_wrong}
use Rattle.form_letter.proofs.Back.{in_clean, letter-in}
use Rattle.form_mask.specs.Masks.{is_port_mask, port_wrong}
use Rattle.form_number.specs.Numbers.{signed_layout}
use Rattle.form_position.specs.Angle.{latitude_most, longitude_most}
use Rattle.form_position.specs.Numbers.{place_layout}
use Rattle.form_position.specs.Values.{place_wrong}
use Rattle.numbers.specs.Numbers.{high, is_mark, is_there, is_whole, low, mark_of, most, signed_of, whole_of}
use Rattle.numbers.specs.Layout.{◌then◌, Layout, marked, nothing, number_at, signed, whole}
use Rattle.numbers.proofs.Layouts.{and-true, regrouped}
use Rattle.sentence_laws.proofs.Fitted.{true-zero}
use Rattle.claims.proofs.WrongNumbers.{date-spoilt, mark-of, place-spoilt, range-spoilt, signed-spoilt}

-- From place p on, l has the numbers of the value that it holds there.
abbrev pub Said : {X : Type 0} → Layout X → List ℤ → ℕ → Type 0
Said a l p = a.numbers (a.at l p) (drop (p + a.size) l) ≡ drop p l

-- One number.
pub said-number : (l : List ℤ) (p : ℕ) (z : ℤ) → p + 1 ≤ length l → z ≡ number_at l p → z ∷ drop (p + 1) l ≡ drop p l
said-number l p z h e =
    ap (λ (x : ℤ). x ∷ drop (p + 1) l) e ∙ ap (λ (k : ℕ). number_at l p ∷ drop k l) (add-one p)
    ∙ sym (drop-cons l p (pos 0) (omega (arith, h)))

pub whole_again : (z : ℤ) → whole_of z < most → pos (whole_of z) ≡ z
unfolding whole_of is_whole
whole_again (pos n) h = go (leb n most) h
  where
    go : (b : Bool) → pick b n most < most → pos (pick b n most) ≡ pos n
    go true i = refl
    go false i = let y : ⊥ = omega (arith, i) in absurd y
whole_again (negsuc n) h = let y : ⊥ = omega (arith, h) in absurd y

whole-whole : (z : ℤ) → is_whole z ≡ true → pos (whole_of z) ≡ z
unfolding whole_of is_whole
whole-whole (pos n) e = rw e
whole-whole (negsuc n) e = absurd (true≢false (sym e))

signed-again : (z : ℤ) → nat_abs (signed_of z) < 2147483647 → signed_of z ≡ z
unfolding signed_of
signed-again z h = go (lt_z z low) (lt_z high z) h
  where
    go : (a b : Bool) → nat_abs (pick a low (pick b high z)) < 2147483647 → pick a low (pick b high z) ≡ z
    go true b i = let y : ⊥ = omega (arith, i) in absurd y
    go false true i = let y : ⊥ = omega (arith, i) in absurd y
    go false false i = refl

mark-again : (z : ℤ) → is_mark z ≡ true → pos (mark_of (is_there z)) ≡ z
unfolding is_mark is_there
mark-again (pos n) e = go (eqb n 1) refl
  where
    go : (b : Bool) → eqb n 1 ≡ b → pos (cond b 1 0) ≡ pos n
    go true q = ap pos (sym (eqb-true n 1 q))
    go false q = let i : 0 ≡ n = omega (arith, leb-true n 1 e, eqb-false n 1 q) in ap pos i
mark-again (negsuc n) e = absurd (true≢false (sym e))

module _ (l : List ℤ) (p : ℕ) where
  pub said-whole : p + 1 ≤ length l → whole.at l p < most → Said whole l p
  said-whole h i = said-number l p _ h (whole_again (number_at l p) i)

  pub said-mask : p + 1 ≤ length l → is_whole (number_at l p) ≡ true → Said whole l p
  said-mask h i = said-number l p _ h (whole-whole (number_at l p) i)

  pub said-signed : p + 1 ≤ length l → nat_abs (signed.at l p) < 2147483647 → Said signed l p
  said-signed h i = said-number l p _ h (signed-again (number_at l p) i)

  pub said-nothing : Said nothing l p
  said-nothing = ap (λ (k : ℕ). drop k l) (add-zero p)

  pub said-then : {X Y : Type 0} (a : Layout X) (b : Layout Y) → Said a l p → Said b l (p + a.size) → Said (a then b) l p
  said-then a b s t =
      ap (λ (k : ℕ). a.numbers (a.at l p) (b.numbers (b.at l (p + a.size)) (drop k l))) (sym (regrouped p a.size b.size))
      ∙ ap (a.numbers (a.at l p)) t ∙ s

  -- A value behind its mark, in a form whose fault the spoilt value is.
  pub said-marked : {X R : Type 0} (spoilt : X) (a : Layout X) (to : Bool × X → R) (fault : R → ℕ) → fault (to (false, spoilt)) ≡ 1
      → p + (1 + a.size) ≤ length l → fault (to ((marked spoilt a).at l p)) ≡ 0
      → (fault (to (is_there (number_at l p), a.at l (p + 1))) ≡ 0 → Said a l (p + 1)) → Said (marked spoilt a) l p
  said-marked spoilt a to fault w h e next =
      let z = number_at l p in
      let m = mark-of spoilt a to fault w l p e in
      let good = sym (ap (λ (b : Bool). fault (to (is_there z, pick b (a.at l (p + 1)) spoilt))) m) ∙ e in
      ap (λ (b : Bool). pos (mark_of (is_there z)) ∷ a.numbers (pick b (a.at l (p + 1)) spoilt) (drop (p + (1 + a.size)) l)) m
      ∙ ap (λ (k : ℕ). pos (mark_of (is_there z)) ∷ a.numbers (a.at l (p + 1)) (drop k l)) (sym (regrouped p 1 a.size))
      ∙ ap (λ (rest : List ℤ). pos (mark_of (is_there z)) ∷ rest) (next good)
      ∙ said-number l p _ (omega (arith, h)) (mark-again z m)

-- The forms.
range-below : (lo hi : ℕ) (there : Bool) (v : ℕ) → hi < most → range_wrong lo hi there v ≡ 0 → v < most
unfolding range_wrong
range-below lo hi true v h e = omega (arith, h, (inside lo hi v e).1)
range-below lo hi false v h e = omega (arith, (inside 0 0 v e).1)

pub signed_below : (hi : ℕ) (there : Bool) (z : ℤ) → hi < 2147483647 → signed_wrong hi there z ≡ 0 → nat_abs z < 2147483647
signed_below hi true z h e = omega (arith, h, signed-in hi z e)
signed_below hi false z h e = let i : nat_abs z ≡ 0 = ap nat_abs (signed-none hi z e) in omega (arith, i)

module _ (l : List ℤ) (p : ℕ) where
  pub said-outside : (lo hi : ℕ) → hi < most → p + 1 ≤ length l → outside lo hi (whole.at l p) ≡ 0 → Said whole l p
  said-outside lo hi h room e = said-whole l p room (omega (arith, h, (inside lo hi (whole.at l p) e).1))

  pub said-range : (lo hi : ℕ) → hi < most → p + 2 ≤ length l
      → range_wrong lo hi (maybe_layout.at l p).there (maybe_layout.at l p).value ≡ 0 → Said maybe_layout l p
  said-range lo hi h room e =
      said-marked l p 1 whole (λ v. v) (λ v. range_wrong lo hi v.0 v.1) (range-spoilt lo hi) room e
      (λ i. said-whole l (p + 1) (omega (arith, room)) (range-below lo hi (is_there (number_at l p)) _ h i))

  pub said-sign : (hi : ℕ) → hi < 2147483647 → p + 2 ≤ length l
      → signed_wrong hi (signed_layout.at l p).there (signed_layout.at l p).value ≡ 0 → Said signed_layout l p
  said-sign hi h room e =
      said-marked l p (pos 1) signed (λ v. v) (λ v. signed_wrong hi v.0 v.1) (signed-spoilt hi) room e
      (λ i. said-signed l (p + 1) (omega (arith, room)) (signed_below hi (is_there (number_at l p)) _ h i))

  pub said-place : p + 3 ≤ length l → place_wrong (place_layout.at l p) ≡ 0 → Said place_layout l p
  unfolding place_wrong
  said-place room e =
      said-marked l p (pos 1, pos 0) (signed then signed) (λ v. record { there = v.0; lat = v.1.0; lon = v.1.1 }) place_wrong
      place-spoilt room e (λ i.
      let t = is_there (number_at l p) in
      let a = first-zero (signed_wrong latitude_most t (signed.at l (p + 1))) (λ q. omega arith) i in
      let b = first-zero (signed_wrong longitude_most t (signed.at l (p + 1 + 1))) (λ q. omega arith) a.1 in
      said-then l (p + 1) signed signed (said-signed l (p + 1) (omega (arith, room)) (signed_below latitude_most t _ (lit< tt) a.0))
      (said-signed l (p + 1 + 1) (omega (arith, room)) (signed_below longitude_most t _ (lit< tt) b.0)))

-- The values of a date.
six-below : (there : Bool) (d m y : ℕ) → six_wrong (record { there = there; day = d; month = m; year = y }) ≡ 0
    → (d < most) × ((m < most) × (y < most))
unfolding six_wrong
six-below true d m y e =
    let r = date-ranges d m y (true-zero (is_date d m y) e) in
    (omega (arith, r.day-to), (omega (arith, r.month-to), omega (arith, r.year-to)))
six-below false d m y e =
    let a = and-true (eqb d 0) (eqb m 0 && eqb y 0) (true-zero _ e) in
    let b = and-true (eqb m 0) (eqb y 0) a.1 in
    (omega (arith, eqb-true d 0 a.0), (omega (arith, eqb-true m 0 b.0), omega (arith, eqb-true y 0 b.1)))

module _ (l : List ℤ) (p : ℕ) (room : p + 4 ≤ length l) where
  three-numbers : (whole.at l (p + 1) < most) × ((whole.at l (p + 1 + 1) < most) × (whole.at l (p + 1 + 1 + 1) < most))
      → Said (whole then whole then whole) l (p + 1)
  three-numbers h =
      said-then l (p + 1) whole (whole then whole) (said-whole l (p + 1) (omega (arith, room)) h.0)
      (said-then l (p + 1 + 1) whole whole (said-whole l (p + 1 + 1) (omega (arith, room)) h.1.0)
      (said-whole l (p + 1 + 1 + 1) (omega (arith, room)) h.1.1))

  pub said-six : six_wrong (date_layout.at l p) ≡ 0 → Said date_layout l p
  said-six e =
      said-marked l p (1, (0, 0)) (whole then whole then whole)
      (λ v. record { there = v.0; day = v.1.0; month = v.1.1.0; year = v.1.1.1 }) six_wrong date-spoilt.0 room e
      (λ i. three-numbers (six-below (is_there (number_at l p)) _ _ _ i))

  pub said-three : three_wrong (date_layout.at l p) ≡ 0 → Said date_layout l p
  unfolding three_wrong
  said-three e =
      let d = date_layout.at l p in
      let a = first-zero (range_wrong 1 31 d.there d.day) (λ q. omega arith) e in
      let b = first-zero (range_wrong 1 12 d.there d.month) (λ q. omega arith) a.1 in
      said-six (first-zero (six_wrong d) (λ q. omega arith) b.1).0

port-below : (there : Bool) (v : ℕ) → port_wrong there v ≡ 0 → v < most
unfolding port_wrong is_port_mask
port-below true v e =
    let z : v / 4096 ≡ 0 = eqb-true (v / 4096) 0 (and-true (eqb (v / 128 % 2) 0) (eqb (v / 4096) 0) (true-zero _ e)).1 in
    omega (arith, z)
port-below false v e = omega (arith, (inside 0 0 v e).1)

port-spoilt : port_wrong false 1 ≡ 1
unfolding port_wrong outside
port-spoilt = refl

pub missing-range : (m : Maybe) → is_missing m ≡ true → range_wrong 0 0 m.there m.value ≡ 0
unfolding range_wrong outside
missing-range m e = go m.there (and-true (not m.there) (eqb m.value 0) e)
  where
    go : (t : Bool) → (not t ≡ true) × (eqb m.value 0 ≡ true)
        → ◌≡◌ {A = ℕ} (cond t (cond (leb 0 m.value && leb m.value 0) 0 1) (cond (leb 0 m.value && leb m.value 0) 0 1)) 0
    go true h = absurd (true≢false (sym h.0))
    go false h = rw (eqb-true m.value 0 h.1)

module _ (l : List ℤ) (p : ℕ) where
  pub said-port : p + 2 ≤ length l → port_wrong (maybe_layout.at l p).there (maybe_layout.at l p).value ≡ 0 → Said maybe_layout l p
  said-port room e =
      said-marked l p 1 whole (λ v. v) (λ v. port_wrong v.0 v.1) port-spoilt room e
      (λ i. said-whole l (p + 1) (omega (arith, room)) (port-below (is_there (number_at l p)) _ i))

  pub said-filled-port : p + 1 ≤ length l → port_wrong true (whole.at l p) ≡ 0 → Said whole l p
  said-filled-port room e = said-whole l p room (port-below true _ e)

  pub said-letter : (set : List ℕ) → Clean set → p + 1 ≤ length l → letter_wrong set (whole.at l p) ≡ 0 → Said whole l p
  said-letter set c room e = said-whole l p room (omega (arith, (in_clean set _ c (letter-in set _ e)).1))

-- A row without a fault.
pub record Spoken {G X : Type 0} (r : Row G X) : Type 0 where
  pub says : (l : List ℤ) (p n rest : ℕ) → p + r.layout.size ≤ length l → r.fault (r.layout.at l p) n rest ≡ 0
      → Said r.layout l p × (rest ≡ 0)

pub spoken-one : {G X : Type 0} (f : Form G X)
    → ((l : List ℤ) (p : ℕ) → p + f.layout.size ≤ length l → f.fault (f.layout.at l p) ≡ 0 → Said f.layout l p) → Spoken (one f)
spoken-one f h =
    record { says = λ l p n rest room e. let z = near-zero n (f.fault (f.layout.at l p)) rest e in (h l p room z.0, z.1) }

pub spoken-depending : {K G X H Y : Type 0} (w m : ℕ) (y : Layout Y) (found : G → K) (held : X → K) (a : Row G X) (b : K → Row H Y)
    → ((k : K) → (b k).layout ≡ y) → Spoken a → ((k : K) → Spoken (b k)) → Spoken (depending w m y found held a b)
spoken-depending {Y = Y} w m y found held a b same p q =
    record {
      says = λ l i n rest room e.
          let k = held (a.layout.at l i) in
          let next = i + a.layout.size in
          let s = p.says l i n ((b k).fault (y.at l next) (n + a.width) rest) (omega (arith, room)) e in
          let t =
          subst (λ (x : Layout Y). (l : List ℤ) (p n rest : ℕ) → p + x.size ≤ length l → (b k).fault (x.at l p) n rest ≡ 0
          → Said x l p × (rest ≡ 0)) (same k) (q k).says l next (n + a.width) rest (omega (arith, room)) s.1 in
          (said-then l i a.layout y s.0 t.0, t.1);
    }

infixr 30 ◌⊕◌
pub ◌⊕◌ : {G X H Y : Type 0} {a : Row G X} {b : Row H Y} → Spoken a → Spoken b → Spoken (a ▷ b)
◌⊕◌ {a = a} {b = b} p q =
    spoken-depending {K = Unit {0}} b.width b.most b.layout (λ g. tt) (λ v. tt) a (λ k. b) (λ k. refl) p (λ k. q)

pub spoken-measured : {G X : Type 0} (letter : ℕ) (found : G → Bool) (held : X → Bool) (a : Row G X) → Spoken a
    → Spoken (measured letter found held a)
spoken-measured letter found held a p =
    let q =
    spoken-depending 1 2 nothing found held a (unit_after letter) (λ k. refl) p
    (λ k. record { says = λ l p n rest room e. (said-nothing l p, e) }) in
    record { says = q.says }
