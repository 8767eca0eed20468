-- A line that reads as a GSV sentence passed the line rule and has the address of GSV, since no other gives such a sentence. So what was
-- read of it has no fault. And it is written as the same bytes: the row of its entries keeps them, and the address is the
-- talker's bytes and GSV.
use Prim.Native.Nat.{◌-◌, ◌≤◌, ℕ}
use mathlib.Core.Bool.{Bool, false, true}
use mathlib.Core.List.{[], ◌++◌, ◌∷◌, List}
use mathlib.Core.Path.{◌∙◌, ◌≡◌, ap, refl, subst, sym}
use native.Mathlib.Omega.{arith}
use lib.Dec.{eqb, lit<, lit≤, ltb}
use lib.ListN.{get_or, length}
use borrow.Author.Tests.{eqb-true, ltb-false}
use Rattle.digits.specs.Ascii.{ascii}
use Rattle.digits.specs.Pick.{pick}
use Rattle.line.specs.Line.{as_line, body_of, line_refusal}
use Rattle.line.proofs.Form.{accepted}
use Rattle.address.specs.Address.{address_of}
use Rattle.address.specs.declared.Address.{Address}
use Rattle.address.specs.declared.Address.TheVariants.{Standard}
use Rattle.address.specs.declared.Kind.TheVariants as K
use Rattle.address.specs.declared.Talker.{Talker}
use Rattle.fields.specs.Fields.{fields_of, join_fields}
use Rattle.fields.specs.Places.{the_fields}
use Rattle.fields.proofs.Joining.{join-fields, join_all}
use Rattle.fields.proofs.Splitting.{first_field}
use Rattle.frame.specs.Body.{talker_text}
use Rattle.form.specs.Kind.{answer_by}
use Rattle.form.specs.Row.{one}
use Rattle.form.proofs.SameLaws.{◌⊜◌, fields-same, Keeps, keeps-one}
use Rattle.form_number.proofs.Laws.{lawful-exact}
use Rattle.form_number.proofs.Same.{same-exact}
use Rattle.sentence.specs.Sentence.{Sentence}
use Rattle.sentence.specs.Sentence as S
use Rattle.kind_gsv.specs.Row as View
use Rattle.kind_gsv.specs.Row.{entries_of, entry_if, gsv_made, gsv_row, gsv_with}
use Rattle.sentence.specs.Kinds.{gsv_of}
use Rattle.kind_gsv.specs.declared.Gsv.{Gsv}
use Rattle.kind_gsv.specs.Writing.{gsv_body, gsv_fields}
use Rattle.kind_gsv.proofs.EntryLaws.{lawful-entry_if, same-entry_if}
use Rattle.kind_gsv.proofs.GoodLaws.{Good}
use Rattle.kind_gsv.proofs.Places.{entries-are}
use Rattle.sentence.specs.Lines.{addressed, read_body, read_line}
use Rattle.sentence.proofs.OnlyGsv.{no-gsv, only-gsv}
use Rattle.sentence.proofs.Order.{sound}
use Rattle.sentence_laws.proofs.Addresses.{address_same}
use Rattle.sentence_laws.proofs.Gsv.{write_read}

-- The fields of a line's body by their numbers, the address as 0; and how many stand after it.
abbrev fields : List ℕ → ℕ → List ℕ
fields l = the_fields (body_of l)

abbrev number : List ℕ → ℕ
number l = length (fields_of (body_of l)) - 1

module _ (l : List ℕ) (t : Talker) (v : Gsv) (e : read_line l ≡ S.Gsv t v) where
  way : (line_refusal l ≡ 0) × (address_of (body_of l) ≡ Standard t K.Gsv)
  unfolding read_line read_body
  way = go (eqb (line_refusal l) 0) refl e
    where
      go : (b : Bool) → eqb (line_refusal l) 0 ≡ b → pick b (read_body (body_of l)) (S.Refused (line_refusal l) 0) ≡ S.Gsv t v
          → (line_refusal l ≡ 0) × (address_of (body_of l) ≡ Standard t K.Gsv)
      go true q i = (eqb-true (line_refusal l) 0 q, only-gsv t v (number l) (fields l) (address_of (body_of l)) i)
      go false q i = no-gsv (line_refusal l) 0 t v i

  -- The line is read as the fields of GSV.
  reads : read_line l ≡ gsv_of t (number l) (fields l)
  unfolding read_body
  reads = sound l way.0 ∙ ap (λ (a : Address). addressed a (number l) (fields l)) way.1

-- A line that reads as a GSV sentence gives a record with four places and without a fault.
pub gsv-good : (l : List ℕ) (t : Talker) (v : Gsv) → read_line l ≡ S.Gsv t v → (length v.entries ≡ 4) × Good v
gsv-good l t v e =
    subst Held (sym (reads l t v e))
    (write_read t (fields l) Held (λ no at. no-gsv no at t v) (λ r places good q. same r places good (cc)) (number l)) e
  where
    Held : Sentence → Type 0
    Held r = r ≡ S.Gsv t v → (length v.entries ≡ 4) × Good v

    same : (r : Gsv) → length r.entries ≡ 4 → Good r → r ≡ v → (length v.entries ≡ 4) × Good v
    same r places good q = subst (λ (x : Gsv). (length x.entries ≡ 4) × Good x) q (places, good)

-- The row of so many entries keeps the bytes.
keeps-gsv : (count : ℕ) → Keeps (gsv_row count)
unfolding gsv_row
keeps-gsv count =
    let digit = keeps-one (lawful-exact 1 1 9 (lit≤ tt) (lit≤ tt) (lit< tt)) (same-exact 1 1 9) in
    let all = keeps-one (lawful-exact 2 0 99 (lit≤ tt) (lit≤ tt) (lit< tt)) (same-exact 2 0 99) in
    let entry-of : (k : ℕ) → Keeps (one (entry_if (ltb k count))) = λ k.
    keeps-one (lawful-entry_if (ltb k count)) (same-entry_if (ltb k count)) in
    digit ⊜ digit ⊜ all ⊜ entry-of 0 ⊜ entry-of 1 ⊜ entry-of 2 ⊜ entry-of 3

-- A GSV sentence is given only with at most four entries and no wrong field.
module _ (field : ℕ → List ℕ) (count : ℕ) (t : Talker) (v : Gsv) where
  abbrev first : ℕ
  first = (gsv_row count).wrong ((gsv_row count).got field 0) 0 0

  abbrev kept : View.Values
  kept = (gsv_row count).value ((gsv_row count).got field 0)

  told : gsv_with S.Refused (S.Gsv t) count field ≡ S.Gsv t v → (count ≤ 4) × (first ≡ 0) × (v ≡ gsv_made count kept)
  unfolding gsv_with answer_by
  told = go (ltb 4 count) (eqb first 0) refl refl
    where
      answer : Bool → Bool → Sentence
      answer a b = pick a (S.Refused 4 0) (pick b (S.Gsv t (gsv_made count kept)) (S.Refused 5 first))

      go : (a b : Bool) → ltb 4 count ≡ a → eqb first 0 ≡ b → answer a b ≡ S.Gsv t v → (count ≤ 4) × (first ≡ 0) × (v ≡ gsv_made count kept)
      go true b p q i = no-gsv 4 0 t v i
      go false false p q i = no-gsv 5 first t v i
      go false true p q i = (ltb-false 4 count p, eqb-true first 0 q, cc)

module _ (l : List ℕ) (t : Talker) (v : Gsv) (e : read_line l ≡ S.Gsv t v) where
  abbrev entries : ℕ
  entries = entries_of (number l)

  read_told : (entries ≤ 4) × (first (fields l) entries t v ≡ 0) × (v ≡ gsv_made entries (kept (fields l) entries t v))
  read_told = told (fields l) entries t v (sym (reads l t v e) ∙ e)

  -- What is written has the body's own fields behind its own address.
  body_same : gsv_body t v ≡ body_of l
  unfolding gsv_fields
  body_same = let f = first_field (body_of l) in go f.0 f.1 f.2
    where
      go : (a : List ℕ) (fs : List (List ℕ)) → fields_of (body_of l) ≡ a ∷ fs → gsv_body t v ≡ body_of l
      go a fs q =
          let many : length fs ≡ (gsv_row entries).width = omega (arith, entries-are (number l) read_told.0, ap length q) in
          let wrong : (gsv_row entries).wrong ((gsv_row entries).got (λ k. get_or (a ∷ fs) k []) 0) 0 0 ≡ 0 =
          subst (λ (x : List (List ℕ)). (gsv_row entries).wrong ((gsv_row entries).got (λ k. get_or x k []) 0) 0 0 ≡ 0) q read_told.1 in
          let address : a ≡ talker_text t ++ ascii "GSV" = rw q at (address_same (body_of l) t K.Gsv (way l t v e).1) in
          ap (gsv_body t) read_told.2
          ∙ ap (λ (x : List (List ℕ)). join_fields (talker_text t ++ ascii "GSV") x)
          (ap (λ (x : List (List ℕ)). gsv_fields (gsv_made entries (kept (λ k. get_or x k []) entries t v))) q
          ∙ fields-same (gsv_row entries) (keeps-gsv entries) a fs many wrong)
          ∙ ap (λ (x : List ℕ). join_fields x fs) (sym address)
          ∙ ap join_all (sym q)
          ∙ join-fields (body_of l)

-- The line written from what was read is the line itself, byte by byte.
pub same_bytes : (l : List ℕ) (t : Talker) (v : Gsv) → read_line l ≡ S.Gsv t v → as_line (gsv_body t v) ≡ l
same_bytes l t v e = ap as_line (body_same l t v e) ∙ sym (accepted l (way l t v e).0).1
