-- What a host is told of a line, who lends room for every record: a refusal, or a kind whose numbers say the sentence. For those who read a
-- line to numbers and take the record of one kind from them.
use Prim.Native.Nat.{◌≤◌, ℕ}
use mathlib.Core.Path.{◌∙◌, ◌≡◌, ap, refl, subst, sym}
use mathlib.Core.Bool.{Bool, false, true}
use mathlib.Core.List.{◌++◌, List}
use native.Mathlib.Omega.{arith}
use lib.Dec.{eqb, leb, lit≤, ltb}
use lib.IntN.{ℤ}
use lib.ListN.{drop, length, length-append, length-drop}
use borrow.Author.Tests.{eqb-false, eqb-true, le-leb, leb-true}
use Rattle.digits.specs.Pick.{pick}
use Rattle.address.specs.declared.Address.TheVariants.{Maker, Standard, Unknown}
use Rattle.address.specs.declared.Kind.TheVariants as K
use Rattle.address.specs.declared.Pir.{Pir}
use Rattle.address.specs.declared.Pir.TheVariants as P
use Rattle.numbers.specs.Layout.{whole}
use Rattle.numbers.specs.Numbers.{laid, talker_of}
use Rattle.numbers.specs.Told.{told}
use Rattle.numbers.specs.declared.Told.{Told}
use Rattle.kind_gsv.specs.Row.{gsv_at, gsv_layout}
use Rattle.kind_pir_port.specs.Command.{pirpr_at, pirpr_layout, pirpr_row}
use Rattle.kind_pir_datum.specs.Command.{pirtr_at, pirtr_layout, pirtr_row}
use Rattle.kind_pir_masks.specs.Command.{pirsr_at, pirsr_layout, pirsr_row}
use Rattle.sentence.specs.Back.{address_at, addressed, known_of, record_at}
use Rattle.sentence.specs.Lines.{read_line, refusal_of}
use Rattle.sentence.specs.Numbers.{count_of, kind_of, numbers_of}
use Rattle.sentence.specs.Sentence as S
use Rattle.sentence.specs.Sentence.{Sentence}
use Rattle.sentence.specs.ToHost.{laid_for, told_for, told_of}
use Rattle.sentence.proofs.Numbered.{enough}
use Rattle.sentence_laws.proofs.Refusals.{line-numbered, refused-is}
use Rattle.sentence_laws.proofs.HostBack.{host-back}
use Rattle.sentence_laws.proofs.LawfulLayouts.{most-numbers}

-- Laying keeps the length.
pub length-laid : (v out : List ℤ) → length (laid v out) ≡ length out
unfolding laid
length-laid v out = go (leb (length v) (length out)) refl
  where
    go : (b : Bool) → leb (length v) (length out) ≡ b → length (pick b (v ++ drop (length v) out) out) ≡ length out
    go false e = refl
    go true e = omega (arith, length-append v (drop (length v) out), length-drop (length v) out, leb-true (length v) (length out) e)

module _ (l : List ℕ) (out : List ℤ) (full : length out ≡ 33) where
  abbrev s : Sentence
  s = read_line l

  abbrev t : Told
  t = told_for (read_line l) out

  abbrev left : List ℤ
  left = laid_for (read_line l) out

  room : leb (length (numbers_of s)) (length out) ≡ true
  room = le-leb (length (numbers_of s)) (length out) (omega (arith, most-numbers s, full))

  -- What is told, by whether the line was refused.
  by-refusal : (b : Bool) → eqb (refusal_of s).no 0 ≡ b → t ≡ pick b (told 0 (kind_of s) 0) (told (refusal_of s).no 0 (refusal_of s).field)
  unfolding told_of
  by-refusal b e =
      ap (λ (x : Bool). pick x (pick (leb (length (numbers_of s)) (length out)) (told 0 (kind_of s) 0) (told 8 0 0))
      (told (refusal_of s).no 0 (refusal_of s).field)) e
      ∙ ap (λ (x : Bool). pick b (pick x (told 0 (kind_of s) 0) (told 8 0 0)) (told (refusal_of s).no 0 (refusal_of s).field)) room

  told-refused : (t.no ≡ 0 → ⊥) → s ≡ S.Refused t.no t.field
  told-refused h = go (eqb (refusal_of s).no 0) refl
    where
      go : (b : Bool) → eqb (refusal_of s).no 0 ≡ b → s ≡ S.Refused t.no t.field
      go true e = absurd (h (ap (λ (x : Told). x.no) (by-refusal true e)))
      go false e =
          refused-is s (eqb-false (refusal_of s).no 0 e)
          ∙ ap (λ (x : Told). S.Refused x.no x.field) (sym (by-refusal false e))

  told-kind : t.no ≡ 0 → (t.kind ≡ kind_of s) × (kind_of s ≡ 0 → ⊥)
  told-kind h = go (eqb (refusal_of s).no 0) refl
    where
      go : (b : Bool) → eqb (refusal_of s).no 0 ≡ b → (t.kind ≡ kind_of s) × (kind_of s ≡ 0 → ⊥)
      go true e =
          let z = eqb-true (refusal_of s).no 0 e in
          let some = (line-numbered l).some in
          (ap (λ (x : Told). x.kind) (by-refusal true e), λ q. let y = some q in omega (arith, y, z))
      go false e =
          let i : (refusal_of s).no ≡ 0 = sym (ap (λ (x : Told). x.no) (by-refusal false e)) ∙ h in
          absurd (eqb-false (refusal_of s).no 0 e i)

  pub told-refusal : (t.no ≡ (refusal_of s).no) × (t.field ≡ (refusal_of s).field)
  told-refusal = go (eqb (refusal_of s).no 0) refl
    where
      go : (b : Bool) → eqb (refusal_of s).no 0 ≡ b → (t.no ≡ (refusal_of s).no) × (t.field ≡ (refusal_of s).field)
      go false e = let q = by-refusal false e in (ap (λ (x : Told). x.no) q, ap (λ (x : Told). x.field) q)
      go true e =
          let q = by-refusal true e in
          let z = eqb-true (refusal_of s).no 0 e in
          let none = (line-numbered l).field (λ i. omega (arith, i, z)) in
          (ap (λ (x : Told). x.no) q ∙ sym z, ap (λ (x : Told). x.field) q ∙ sym none)

  -- The numbers say the sentence.
  back : t.no ≡ 0 → (k : ℕ) → t.kind ≡ k → record_at k left ≡ s
  back h k e =
      let z = told-kind h in
      subst (λ (j : ℕ). record_at j left ≡ s) e (host-back l out (λ q. z.1 (sym z.0 ∙ q)))

  long : length left ≡ 33
  long = length-laid (numbers_of s) out ∙ full

  gsv-told : t.no ≡ 0 → t.kind ≡ 4 → s ≡ S.Gsv (talker_of (whole.at left 0)) (gsv_at left)
  unfolding address_at known_of gsv_layout
  gsv-told h e = go (ltb 4 (whole.at left 0)) refl
    where
      goal : Type 0
      goal = s ≡ S.Gsv (talker_of (whole.at left 0)) (gsv_at left)

      record_of : record_at 4 left ≡ addressed (address_at 4 (whole.at left 0)) left
      record_of = sym (enough 4 left 33 refl (address_at 4 (whole.at left 0)) refl (omega (arith, long)))

      go : (b : Bool) → ltb 4 (whole.at left 0) ≡ b → goal
      go true q =
          let unknown : addressed (address_at 4 (whole.at left 0)) left ≡ S.Refused 3 0 =
          ap (λ (b : Bool). addressed (pick b Unknown (Standard (talker_of (whole.at left 0)) K.Gsv)) left) q in
          absurd ((told-kind h).1 (ap kind_of (sym (back h 4 e) ∙ record_of ∙ unknown)))
      go false q =
          sym (back h 4 e) ∙ record_of
          ∙ ap (λ (b : Bool). addressed (pick b Unknown (Standard (talker_of (whole.at left 0)) K.Gsv)) left) q

  maker-told : (k : ℕ) (p : Pir) → count_of k ≤ 33 → Maker p ≡ address_at k (whole.at left 0) → t.no ≡ 0 → t.kind ≡ k
      → s ≡ addressed (Maker p) left
  maker-told k p few a h e = sym (back h k e) ∙ sym (enough k left (count_of k) refl (Maker p) a (omega (arith, long, few)))

  pirpr-told : t.no ≡ 0 → t.kind ≡ 8 → s ≡ S.Pr (pirpr_at left)
  unfolding address_at known_of pirpr_layout pirpr_row
  pirpr-told = maker-told 8 P.Pr (lit≤ tt) refl

  pirtr-told : t.no ≡ 0 → t.kind ≡ 9 → s ≡ S.Tr (pirtr_at left)
  unfolding address_at known_of pirtr_layout pirtr_row
  pirtr-told = maker-told 9 P.Tr (lit≤ tt) refl

  pirsr-told : t.no ≡ 0 → t.kind ≡ 10 → s ≡ S.Sr (pirsr_at left)
  unfolding address_at known_of pirsr_layout pirsr_row
  pirsr-told = maker-told 10 P.Sr (lit≤ tt) refl

  pirer-told : t.no ≡ 0 → t.kind ≡ 11 → s ≡ S.Er
  unfolding address_at known_of
  pirer-told = maker-told 11 P.Er (lit≤ tt) refl

-- The same of what the reader answered and left.
module _ (l : List ℕ) (out : List ℤ) (full : length out ≡ 33) (answer : Told) (after : List ℤ)
    (read : (answer ≡ told_for (read_line l) out) × (after ≡ laid_for (read_line l) out)) where
  pub line_refused : (answer.no ≡ 0 → ⊥) → read_line l ≡ S.Refused answer.no answer.field
  line_refused =
      subst (λ (x : Told). (x.no ≡ 0 → ⊥) → read_line l ≡ S.Refused x.no x.field) (sym read.0) (told-refused l out full)

  module _ (h : answer.no ≡ 0) where
    none : (t l out full).no ≡ 0
    none = ap (λ (x : Told). x.no) (sym read.0) ∙ h

    pub line-kind : (answer.kind ≡ kind_of (read_line l)) × (kind_of (read_line l) ≡ 0 → ⊥)
    line-kind = let z = told-kind l out full none in (ap (λ (x : Told). x.kind) read.0 ∙ z.0, z.1)

    says : (k : ℕ) (make : List ℤ → Sentence)
        → ((t l out full).no ≡ 0 → (t l out full).kind ≡ k → read_line l ≡ make (left l out full))
        → answer.kind ≡ k → read_line l ≡ make after
    says k make law e = law none (ap (λ (x : Told). x.kind) (sym read.0) ∙ e) ∙ ap make (sym read.1)

    pub line-gsv : answer.kind ≡ 4 → read_line l ≡ S.Gsv (talker_of (whole.at after 0)) (gsv_at after)
    line-gsv = says 4 (λ n. S.Gsv (talker_of (whole.at n 0)) (gsv_at n)) (gsv-told l out full)

    pub line-port : answer.kind ≡ 8 → read_line l ≡ S.Pr (pirpr_at after)
    line-port = says 8 (λ n. S.Pr (pirpr_at n)) (pirpr-told l out full)

    pub line-datum : answer.kind ≡ 9 → read_line l ≡ S.Tr (pirtr_at after)
    line-datum = says 9 (λ n. S.Tr (pirtr_at n)) (pirtr-told l out full)

    pub line-masks : answer.kind ≡ 10 → read_line l ≡ S.Sr (pirsr_at after)
    line-masks = says 10 (λ n. S.Sr (pirsr_at n)) (pirsr-told l out full)

    pub line_code : answer.kind ≡ 11 → read_line l ≡ S.Er
    line_code = says 11 (λ n. S.Er) (pirer-told l out full)
