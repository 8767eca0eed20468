-- GSV there and back: its row by its count, and what the writer looks at entry by entry.
use Prim.Native.Nat.{◌≤◌, suc, zero, ℕ}
use mathlib.Core.Bool.{Bool, false, true}
use mathlib.Core.List.{[], ◌++◌, List}
use mathlib.Core.Path.{◌∙◌, ◌≡◌, ap, refl}
use native.Mathlib.Omega.{arith}
use lib.Dec.{lit<, ltb}
use lib.ListN.{length}
use borrow.Author.Tests.{eq-eqb, ltb-false}
use Rattle.digits.specs.Ascii.{ascii}
use Rattle.digits.specs.Pick.{pick}
use Rattle.digits.proofs.DecimalLaws.{length-fixed}
use Rattle.line.specs.Line.{as_line}
use Rattle.address.specs.Address.{known_of}
use Rattle.address.specs.declared.Address.{Address}
use Rattle.address.specs.declared.Address.TheVariants as A
use Rattle.address.specs.declared.Kind.TheVariants as K
use Rattle.address.specs.declared.Talker.{Talker}
use Rattle.frame.specs.Body.{talker_text}
use Rattle.form.specs.Kind.{answer_by, fields_for, read_by}
use Rattle.form.proofs.Clean.{Clean}
use Rattle.form.proofs.CleanTexts.{joined_length, total, total-append}
use Rattle.form.proofs.Lists.{all-four}
use Rattle.form_number.proofs.Texts.{long-fixed}
use Rattle.kind_gsv.specs.Blank.{blank_entry}
use Rattle.kind_gsv.specs.declared.Entry.{Entry}
use Rattle.kind_gsv.specs.declared.Gsv.{Gsv}
use Rattle.sentence.specs.Sentence as S
use Rattle.sentence.specs.Sentence.{Sentence}
use Rattle.kind_gsv.specs.Row.{entries_of, gsv_made, gsv_row, gsv_with, Values}
use Rattle.sentence.specs.Kinds.{gsv_of}
use Rattle.kind_gsv.specs.Writing.{entry_fields, entry_of, gsv_body, gsv_fields, gsv_values, used}
use Rattle.kind_gsv.proofs.GoodLaws.{Good}
use Rattle.kind_gsv.proofs.Laws.{good-row, lawful-gsv, row-good}
use Rattle.sentence.specs.Lines.{addressed, read_line}
use Rattle.sentence_laws.proofs.Known.{address-clean, address-five, known-gsv}
use Rattle.sentence_laws.proofs.Trips.{line-back, read-in-range}

-- The line of a record never passes 82 bytes.
entry-long : (on : Bool) (e : Entry) → total (entry_fields on e) ≤ 13
entry-long true e =
    omega (arith, length-fixed 2 e.number, long-fixed 2 e.elevation, long-fixed 3 e.azimuth, long-fixed 2 e.signal)
entry-long false e = omega arith

pub fits : (t : Talker) (r : Gsv) → length (gsv_body t r) ≤ 76
unfolding gsv_fields fields_for gsv_row
fits t r =
    let e : ℕ → List (List ℕ) = λ k. entry_fields (used r k) (entry_of r k) in
    let long : (k : ℕ) → total (entry_fields (used r k) (entry_of r k)) ≤ 13 = λ k. entry-long (used r k) (entry_of r k) in
    let t0 = total-append (e 0) (e 1 ++ (e 2 ++ (e 3 ++ []))) in
    let t1 = total-append (e 1) (e 2 ++ (e 3 ++ [])) in
    let t2 = total-append (e 2) (e 3 ++ []) in
    let t3 = total-append (e 3) [] in
    let body = joined_length (talker_text t ++ ascii "GSV") (gsv_fields r) in
    omega (
      arith,
      body,
      address-five t (ascii "GSV") refl,
      length-fixed 1 r.lines,
      length-fixed 1 r.line,
      length-fixed 2 r.satellites,
      t0,
      t1,
      t2,
      t3,
      long 0,
      long 1,
      long 2,
      long 3,
    )

-- A sentence of so many entries.
abbrev pub gsv_is : Talker → ℕ → Values → Sentence
gsv_is t count v = S.Gsv t (gsv_made count v)

-- The address leads to the row of so many entries.
leads : (count : ℕ) → count ≤ 4 → (t : Talker) (field : ℕ → List ℕ)
    → addressed (A.Standard t K.Gsv) (gsv_row count).width field
    ≡ read_by S.Refused (gsv_row count) (gsv_is t count) (gsv_row count).width field
unfolding gsv_with entries_of gsv_row read_by
leads zero h t field = refl
leads (suc zero) h t field = refl
leads (suc (suc zero)) h t field = refl
leads (suc (suc (suc zero))) h t field = refl
leads (suc (suc (suc (suc zero)))) h t field = refl
leads (suc (suc (suc (suc (suc count))))) h t field = let z : ⊥ = omega arith in absurd z

some-width : (count : ℕ) → 1 ≤ (gsv_row count).width
unfolding gsv_row
some-width count = omega arith

-- What is written is read back as the same record and talker.
pub read-write : (t : Talker) (r : Gsv) → length r.entries ≡ 4 → Good r → read_line (as_line (gsv_body t r)) ≡ S.Gsv t r
unfolding gsv_fields
read-write t r four good =
    let a = talker_text t ++ ascii "GSV" in
    let three : Clean (ascii "GSV") = ((lit< tt, lit< tt), ((lit< tt, lit< tt), ((lit< tt, lit< tt), tt))) in
    let to_row : (field : ℕ → List ℕ) → addressed (known_of a) (gsv_row r.count).width field
    ≡ read_by S.Refused (gsv_row r.count) (gsv_is t r.count) (gsv_row r.count).width field = λ field.
    ap (λ (x : Address). addressed x (gsv_row r.count).width field) (known-gsv t) ∙ leads r.count good.few t field in
    let again : List Entry → Sentence = λ es.
    S.Gsv t (record { lines = r.lines; line = r.line; satellites = r.satellites; count = r.count; entries = es }) in
    line-back (gsv_row r.count) (lawful-gsv r.count) (gsv_is t r.count) a (address-five t (ascii "GSV") refl)
    (address-clean t (ascii "GSV") refl three) (some-width r.count) to_row (gsv_values r) (good-row r good) (fits t r)
    ∙ ap again (all-four blank_entry r.entries four)

-- Whatever holds of refusals and of records without a fault holds of what is read.
module _ (t : Talker) (field : ℕ → List ℕ) (P : Sentence → Type 0) (none : (no at : ℕ) → P (S.Refused no at))
    (written : (r : Gsv) → length r.entries ≡ 4 → Good r → P (S.Gsv t r)) where
  by_row : (count : ℕ) → count ≤ 4 → P (answer_by S.Refused (gsv_row count) (gsv_is t count) ((gsv_row count).got field 0))
  unfolding read_by
  by_row count few =
      let row = gsv_row count in
      let made = read-in-range row (lawful-gsv count) (gsv_is t count) row.width field P none
      (λ v n e. written (gsv_made count v) refl (row-good (gsv_made count v) few e)) in
      rw (eq-eqb row.width row.width refl) at made

  with_read : (count : ℕ) → P (gsv_with S.Refused (S.Gsv t) count field)
  unfolding gsv_with
  with_read count = go (ltb 4 count) refl
    where
      go : (b : Bool) → ltb 4 count ≡ b
          → P (pick b (S.Refused 4 0) (answer_by S.Refused (gsv_row count) (gsv_is t count) ((gsv_row count).got field 0)))
      go true q = none 4 0
      go false q = by_row count (ltb-false 4 count q)

  pub write_read : (n : ℕ) → P (gsv_of t n field)
  write_read n = with_read (entries_of n)
