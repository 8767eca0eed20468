-- What was read can be written: every sentence that the line reader gives is in range, and its line fits. The body of a line is as long as
-- its fields and commas together, and no field is written longer than it was read, but in the maker's sentences, which always fit.
use Prim.Native.Nat.{◌+◌, ◌-◌, ◌≤◌, suc, zero, ℕ}
use mathlib.Core.Path.{◌∙◌, ◌≡◌, ap, refl, sym}
use mathlib.Core.List.{[], ◌++◌, ◌∷◌, List}
use mathlib.Core.Bool.{◌&&◌, Bool, false, not, true}
use native.Mathlib.Omega.{arith}
use lib.Dec.{eqb, leb}
use lib.ListN.{get_or, length, take}
use borrow.Author.Tests.{eqb-true, leb-false, leb-true, not-true}
use Rattle.digits.specs.Ascii.{ascii}
use Rattle.digits.proofs.Bools.{and_left, and_right}
use Rattle.line.specs.Line.{as_line, body_of, line_refusal}
use Rattle.line.proofs.Form.{accepted}
use Rattle.address.specs.declared.Address.{Address}
use Rattle.address.specs.declared.Address.TheVariants.{Maker, Standard, Unknown}
use Rattle.address.specs.declared.Kind.{Kind}
use Rattle.address.specs.declared.Kind.TheVariants as K
use Rattle.address.specs.declared.Pir.{Pir}
use Rattle.address.specs.declared.Pir.TheVariants as P
use Rattle.address.specs.declared.Talker.{Talker}
use Rattle.digits.specs.Pick.{pick}
use Rattle.address.specs.Address.{address_of, comma_free, known_of}
use Rattle.address.proofs.Commas.{no-sixth}
use Rattle.fields.specs.FieldN.{unknown_no}
use Rattle.fields.specs.Fields.{fields_of, join_fields, onto}
use Rattle.fields.specs.Places.{the_fields}
use Rattle.fields.proofs.Joining.{join-fields, join_all}
use Rattle.fields.proofs.Splitting.{First, first_field}
use Rattle.sentence.specs.Sentence.{Sentence}
use Rattle.sentence.specs.Sentence as S
use Rattle.sentence.specs.Lines.{addressed, maker_of, read_body, read_line, standard_of}
use Rattle.frame.specs.Body.{talker_text}
use Rattle.frame.specs.Written.{wrote}
use Rattle.frame.proofs.Sealing.{line-length}
use Rattle.form.proofs.CleanTexts.{joined_length, total}
use Rattle.sentence_laws.proofs.Known.{address-five}
use Rattle.kind_gsa.specs.Row.{gsa_body, gsa_fields, gsa_wrong}
use Rattle.kind_gsv.specs.Writing.{gsv_body, gsv_fault}
use Rattle.sentence_laws.proofs.Gsa as TGsa
use Rattle.sentence_laws.proofs.Gsv as TGsv
use Rattle.kind_gga.specs.Row.{gga_body, gga_fields, gga_wrong}
use Rattle.kind_gll.specs.Row.{gll_body, gll_wrong}
use Rattle.kind_rmc.specs.Row.{rmc_body, rmc_fields, rmc_wrong}
use Rattle.kind_vtg.specs.Row.{vtg_body, vtg_wrong}
use Rattle.kind_zda.specs.Row.{zda_body, zda_wrong}
use Rattle.kind_pir_port.specs.Command.{pirpr_body, pirpr_wrong}
use Rattle.kind_pir_datum.specs.Command.{pirtr_body, pirtr_wrong}
use Rattle.kind_pir_masks.specs.Command.{pirsr_body, pirsr_wrong}
use Rattle.kind_pir_port.specs.Reply.{pirpa_body, pirpa_wrong}
use Rattle.kind_pir_datum.specs.Reply.{pirta_body, pirta_wrong}
use Rattle.kind_pir_masks.specs.Reply.{pirsa_body, pirsa_wrong}
use Rattle.kind_pir_code.specs.Reply.{pirea_body, pirea_wrong}
use Rattle.kind_pir_code.specs.Command.{pirer_body}
use Rattle.sentence_laws.proofs.Standard as N
use Rattle.sentence_laws.proofs.Maker as C
use Rattle.form.proofs.Laws.{Begins, bytes}
use Rattle.kind_gsv.proofs.GoodLaws.{fault-none}
use native.Mathlib.Nat.{zero-add}

-- In range, and its line fits.
abbrev pub Fits : List ℕ → Type 0
Fits body = length (as_line body) ≤ 82

abbrev pub CanBeWritten : Sentence → Type 0
CanBeWritten (S.Gga t r) = (gga_wrong r ≡ 0) × Fits (gga_body t r)
CanBeWritten (S.Gll t r) = (gll_wrong r ≡ 0) × Fits (gll_body t r)
CanBeWritten (S.Rmc t r) = (rmc_wrong r ≡ 0) × Fits (rmc_body t r)
CanBeWritten (S.Vtg t r) = (vtg_wrong r ≡ 0) × Fits (vtg_body t r)
CanBeWritten (S.Zda t r) = (zda_wrong r ≡ 0) × Fits (zda_body t r)
CanBeWritten (S.Gsa t r) = (gsa_wrong r ≡ 0) × Fits (gsa_body t r)
CanBeWritten (S.Gsv t r) = (gsv_fault r ≡ wrote 0) × Fits (gsv_body t r)
CanBeWritten (S.Pr r) = (pirpr_wrong r ≡ 0) × Fits (pirpr_body r)
CanBeWritten (S.Tr r) = (pirtr_wrong r ≡ 0) × Fits (pirtr_body r)
CanBeWritten (S.Sr r) = (pirsr_wrong r ≡ 0) × Fits (pirsr_body r)
CanBeWritten (S.Pa r) = (pirpa_wrong r ≡ 0) × Fits (pirpa_body r)
CanBeWritten (S.Ta r) = (pirta_wrong r ≡ 0) × Fits (pirta_body r)
CanBeWritten (S.Sa r) = (pirsa_wrong r ≡ 0) × Fits (pirsa_body r)
CanBeWritten (S.Ea r) = (pirea_wrong r ≡ 0) × Fits (pirea_body r)
CanBeWritten S.Er = Fits pirer_body
CanBeWritten (S.Refused n f) = Unit {0}

fits : (body : List ℕ) → length body ≤ 76 → Fits body
fits body h = omega (arith, line-length body, h)

-- The first field of a body with a known address has at least its five bytes.
first-long : (n : ℕ) (s : List ℕ) → n ≤ length s → comma_free (take n s) ≡ true → n ≤ length (get_or (fields_of s) 0 [])
unfolding comma_free fields_of onto
first-long zero s h c = omega arith
first-long (suc n) [] h c = let z : ⊥ = omega arith in absurd z
first-long (suc n) (b ∷ s) h c =
    let r = first_field s in
    let i = first-long n s (omega arith) (and_right (not (eqb b 44)) _ c) in
    rw (not-true (eqb b 44) (and_left _ _ c)) (longer (fields_of s) r i)
  where
    longer : (fs : List (List ℕ)) → First fs → n ≤ length (get_or fs 0 []) → suc n ≤ length (get_or (onto b fs) 0 [])
    longer fs r i = go r.0 r.1 (rw r.2 at i) r.2
      where
        go : (g : List ℕ) (gs : List (List ℕ)) → n ≤ length g → fs ≡ g ∷ gs → suc n ≤ length (get_or (onto b fs) 0 [])
        go g gs j q = rw q (omega (arith, j))

address-long : (body : List ℕ) (t : Talker) (k : Kind) → address_of body ≡ Standard t k → 5 ≤ length (get_or (fields_of body) 0 [])
unfolding address_of
address-long body t k e = go (eqb (get_or body 5 0) 44 && comma_free (take 5 body)) refl e
  where
    no : Unknown ≡ Standard t k → ⊥
    no q = let z : ◌≡◌ {A = ℕ} 3 0 = ap unknown_no q in omega (arith, z)

    long : 5 ≤ length body
    long = by (leb 5 (length body)) refl
      where
        by : (b : Bool) → leb 5 (length body) ≡ b → 5 ≤ length body
        by true q = leb-true 5 (length body) q
        by false q = absurd (no (no-sixth body (omega (arith, leb-false 5 (length body) q)) ∙ e))

    go : (b : Bool) → (eqb (get_or body 5 0) 44 && comma_free (take 5 body)) ≡ b → pick b (known_of (take 5 body)) Unknown ≡ Standard t k
        → 5 ≤ length (get_or (fields_of body) 0 [])
    go true q i = first-long 5 body long (and_right (eqb (get_or body 5 0) 44) _ q)
    go false q i = absurd (no i)

-- A body is as long as its first field and the others with their commas.
body-long : (body f : List ℕ) (fs : List (List ℕ)) → fields_of body ≡ f ∷ fs → length body ≡ length f + total fs
body-long body f fs e = sym (ap length (ap join_all (sym e) ∙ join-fields body)) ∙ joined_length f fs

-- As many fields as a body has after its address are as long as the rest of it.
bytes-total : (field : ℕ → List ℕ) (n : ℕ) (fs : List (List ℕ)) → Begins field n (length fs) fs → bytes field n (length fs) ≡ total fs
bytes-total field n [] b = refl
bytes-total field n (f ∷ fs) b =
    let first : field (n + 1) ≡ f = b 0 (omega arith) in
    let next : Begins field (n + 1) (length fs) fs = λ k h. let i : n + 1 + suc k ≡ n + suc (suc k) = omega arith in
    ap field i ∙ b (suc k) (omega (arith, h)) in
    omega (arith, ap length first, bytes-total field (n + 1) fs next)

fields-long : (body : List ℕ) (t : Talker) (k : Kind) → address_of body ≡ Standard t k → (n : ℕ) → length (fields_of body) - 1 ≡ n
    → 5 + bytes (the_fields body) 0 n ≤ length body
fields-long body t k a n c = let r = first_field body in go r.0 r.1 r.2
  where
    go : (f : List ℕ) (fs : List (List ℕ)) → fields_of body ≡ f ∷ fs → 5 + bytes (the_fields body) 0 n ≤ length body
    go f fs q =
        let l : length fs ≡ n = omega (arith, ap (λ (x : List (List ℕ)). length x) q, c) in
        let g : 5 ≤ length f = rw q at (address-long body t k a) in
        let own : ℕ → List ℕ = λ j. get_or (f ∷ fs) j [] in
        let s : bytes own 0 (length fs) ≡ total fs = bytes-total own 0 fs (λ j h. ap own (zero-add (suc j))) in
        let b = ap (λ (x : List (List ℕ)). bytes (λ j. get_or x j []) 0 n) q in
        omega (arith, g, s, b, ap (bytes own 0) l, body-long body f fs q)

-- The body of a talker's sentence, by its fields.
standard-long : (t : Talker) (kind : List ℕ) (fs : List (List ℕ)) (n : ℕ) → length kind ≡ 3 → total fs ≤ n
    → length (join_fields (talker_text t ++ kind) fs) ≤ 5 + n
standard-long t kind fs n h i = omega (arith, joined_length (talker_text t ++ kind) fs, address-five t kind h, i)

module _ (body : List ℕ) (room : length body ≤ 76) where
  standard-written : (t : Talker) (k : Kind) → address_of body ≡ Standard t k
      → CanBeWritten (standard_of t k (length (fields_of body) - 1) (the_fields body))
  standard-written t K.Gga a =
      (N.gga).write_read t (length (fields_of body) - 1) (the_fields body) CanBeWritten (λ n f. tt) (λ r c w u. (
        w,
        fits (gga_body t r) (omega (
          arith,
          standard-long t (ascii "GGA") (gga_fields r) _ refl u,
          fields-long body t K.Gga a _ c,
          room,
        )),
      ))
  standard-written t K.Rmc a =
      (N.rmc).write_read t (length (fields_of body) - 1) (the_fields body) CanBeWritten (λ n f. tt) (λ r c w u. (
        w,
        fits (rmc_body t r) (omega (
          arith,
          standard-long t (ascii "RMC") (rmc_fields r) _ refl u,
          fields-long body t K.Rmc a _ c,
          room,
        )),
      ))
  standard-written t K.Gll a =
      (N.gll).write_read t (length (fields_of body) - 1) (the_fields body) CanBeWritten (λ n f. tt)
      (λ r c w u. (w, fits (gll_body t r) (N.gll-fits t r w)))
  standard-written t K.Vtg a =
      (N.vtg).write_read t (length (fields_of body) - 1) (the_fields body) CanBeWritten (λ n f. tt)
      (λ r c w u. (w, fits (vtg_body t r) (N.vtg-fits t r w)))
  standard-written t K.Zda a =
      (N.zda).write_read t (length (fields_of body) - 1) (the_fields body) CanBeWritten (λ n f. tt)
      (λ r c w u. (w, fits (zda_body t r) (N.zda-fits t r w)))
  standard-written t K.Gsa a =
      TGsa.write_read t (length (fields_of body) - 1) (the_fields body) CanBeWritten (λ n f. tt) (λ r e c w u. (
        w,
        fits (gsa_body t r) (omega (
          arith,
          standard-long t (ascii "GSA") (gsa_fields r) _ refl u,
          fields-long body t K.Gsa a _ c,
          room,
        )),
      ))
  standard-written t K.Gsv a =
      TGsv.write_read t (the_fields body) CanBeWritten (λ n f. tt)
      (λ r e g. (fault-none r g, fits (gsv_body t r) (TGsv.fits t r))) (length (fields_of body) - 1)

  maker-written : (k : Pir) → CanBeWritten (maker_of k (length (fields_of body) - 1) (the_fields body))
  maker-written P.Pr = (C.pirpr).write_read (length (fields_of body) - 1) (the_fields body) CanBeWritten
      (λ n f. tt) (λ r c w. (w, fits (pirpr_body r) ((C.pirpr).fits r w)))
  maker-written P.Tr = (C.pirtr).write_read (length (fields_of body) - 1) (the_fields body) CanBeWritten
      (λ n f. tt) (λ r c w. (w, fits (pirtr_body r) ((C.pirtr).fits r w)))
  maker-written P.Sr = (C.pirsr).write_read (length (fields_of body) - 1) (the_fields body) CanBeWritten
      (λ n f. tt) (λ r c w. (w, fits (pirsr_body r) ((C.pirsr).fits r w)))
  maker-written P.Pa = (C.pirpa).write_read (length (fields_of body) - 1) (the_fields body) CanBeWritten
      (λ n f. tt) (λ r c w. (w, fits (pirpa_body r) ((C.pirpa).fits r w)))
  maker-written P.Ta = (C.pirta).write_read (length (fields_of body) - 1) (the_fields body) CanBeWritten
      (λ n f. tt) (λ r c w. (w, fits (pirta_body r) ((C.pirta).fits r w)))
  maker-written P.Sa = (C.pirsa).write_read (length (fields_of body) - 1) (the_fields body) CanBeWritten
      (λ n f. tt) (λ r c w. (w, fits (pirsa_body r) ((C.pirsa).fits r w)))
  maker-written P.Ea = (C.pirea).write_read (length (fields_of body) - 1) (the_fields body) CanBeWritten
      (λ n f. tt) (λ r c w. (w, fits (pirea_body r) ((C.pirea).fits r w)))
  maker-written P.Er = (C.pirer).write_read (length (fields_of body) - 1) (the_fields body) CanBeWritten
      (λ n f. tt) (λ v c w. fits pirer_body ((C.pirer).fits tt w))

  addressed-written : (a : Address) → address_of body ≡ a → CanBeWritten (addressed a (length (fields_of body) - 1) (the_fields body))
  addressed-written (Standard t k) e = standard-written t k e
  addressed-written (Maker k) e = maker-written k
  addressed-written Unknown e = tt

  body-written : CanBeWritten (read_body body)
  unfolding read_body
  body-written = addressed-written (address_of body) refl

-- What the line reader gives can be written.
pub read-can-be-written : (l : List ℕ) → CanBeWritten (read_line l)
unfolding read_line
read-can-be-written l = go (eqb (line_refusal l) 0) refl
  where
    go : (b : Bool) → eqb (line_refusal l) 0 ≡ b → CanBeWritten (pick b (read_body (body_of l)) (S.Refused (line_refusal l) 0))
    go true q = body-written (body_of l) (accepted l (eqb-true (line_refusal l) 0 q)).0.room
    go false q = tt
