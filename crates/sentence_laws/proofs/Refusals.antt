-- Refusals are what they say: the number of a refused line is 1 to 5, never 0; its field is 0 unless the number is 5.
use Prim.Native.Nat.{◌-◌, ◌≤◌, ℕ}
use mathlib.Core.Bool.{Bool, false, true}
use mathlib.Core.List.{List}
use mathlib.Core.Logic.{inl, inr}
use mathlib.Core.Path.{◌≡◌, refl}
use native.Mathlib.Omega.{arith}
use lib.Dec.{eqb, lit≤, ltb}
use lib.ListN.{length}
use borrow.Author.Tests.{eqb-false}
use Rattle.digits.specs.Pick.{pick}
use Rattle.line.specs.Line.{body_of, line_refusal}
use Rattle.line.proofs.Form.{Answer, line-answer}
use Rattle.address.specs.Address.{address_of}
use Rattle.address.specs.declared.Address.{Address}
use Rattle.address.specs.declared.Address.TheVariants.{Maker, Standard, Unknown}
use Rattle.address.specs.declared.Kind.{Kind}
use Rattle.address.specs.declared.Kind.TheVariants as K
use Rattle.address.specs.declared.Pir.{Pir}
use Rattle.address.specs.declared.Pir.TheVariants as P
use Rattle.address.specs.declared.Talker.{Talker}
use Rattle.fields.specs.Fields.{fields_of}
use Rattle.fields.specs.Places.{the_fields}
use Rattle.form.specs.Kind.{answer_by, read_by}
use Rattle.form.specs.Row.{Row}
use Rattle.kind_gga.specs.Row.{gga_row}
use Rattle.kind_gll.specs.Row.{gll_row}
use Rattle.kind_gsa.specs.Row.{gsa_made, gsa_row}
use Rattle.kind_gsv.specs.Row.{entries_of, gsv_made, gsv_row, gsv_with, Values}
use Rattle.kind_rmc.specs.Row.{rmc_row}
use Rattle.kind_vtg.specs.Row.{vtg_row}
use Rattle.kind_zda.specs.Row.{zda_row}
use Rattle.kind_pir_port.specs.Command.{pirpr_row}
use Rattle.kind_pir_port.specs.Reply.{pirpa_row}
use Rattle.kind_pir_datum.specs.Command.{pirtr_row}
use Rattle.kind_pir_datum.specs.Reply.{pirta_row}
use Rattle.kind_pir_masks.specs.Command.{pirsr_row}
use Rattle.kind_pir_masks.specs.Reply.{pirsa_row}
use Rattle.kind_pir_code.specs.Command.{pirer_row}
use Rattle.kind_pir_code.specs.Reply.{pirea_row}
use Rattle.sentence.specs.Kinds.{gsv_of}
use Rattle.sentence.specs.Lines.{addressed, maker_of, read_body, read_line, refusal_of, standard_of}
use Rattle.sentence.specs.Numbers.{kind_of}
use Rattle.sentence.specs.Sentence as S
use Rattle.sentence.specs.Sentence.{Sentence}

-- Of a sentence: it has a kind, or a refusal with a number from 1 to 5.
pub record Numbered (s : Sentence) : Type 0 where
  pub some : kind_of s ≡ 0 → 1 ≤ (refusal_of s).no
  pub most : (refusal_of s).no ≤ 5
  pub field : ((refusal_of s).no ≡ 5 → ⊥) → (refusal_of s).field ≡ 0

refused : (n f : ℕ) → 1 ≤ n → n ≤ 5 → ((n ≡ 5 → ⊥) → f ≡ 0) → Numbered (S.Refused n f)
refused n f a b z = record { some = λ e. a; most = b; field = z }

-- A sentence that has a kind is not refused.
not-refused : (s : Sentence) → (kind_of s ≡ 0 → ⊥) → ((refusal_of s).no ≡ 0) × ((refusal_of s).field ≡ 0)
not-refused (S.Refused n f) h = absurd (h refl)
not-refused (S.Gga t r) h = (refl, refl)
not-refused (S.Gll t r) h = (refl, refl)
not-refused (S.Gsa t r) h = (refl, refl)
not-refused (S.Gsv t r) h = (refl, refl)
not-refused (S.Rmc t r) h = (refl, refl)
not-refused (S.Vtg t r) h = (refl, refl)
not-refused (S.Zda t r) h = (refl, refl)
not-refused (S.Pr r) h = (refl, refl)
not-refused (S.Tr r) h = (refl, refl)
not-refused (S.Sr r) h = (refl, refl)
not-refused S.Er h = (refl, refl)
not-refused (S.Pa r) h = (refl, refl)
not-refused (S.Ta r) h = (refl, refl)
not-refused (S.Sa r) h = (refl, refl)
not-refused (S.Ea r) h = (refl, refl)

-- What has a refusal's number is that refusal.
pub refused-is : (s : Sentence) → ((refusal_of s).no ≡ 0 → ⊥) → s ≡ S.Refused (refusal_of s).no (refusal_of s).field
refused-is (S.Refused n f) h = refl
refused-is (S.Gga t r) h = absurd (h refl)
refused-is (S.Gll t r) h = absurd (h refl)
refused-is (S.Gsa t r) h = absurd (h refl)
refused-is (S.Gsv t r) h = absurd (h refl)
refused-is (S.Rmc t r) h = absurd (h refl)
refused-is (S.Vtg t r) h = absurd (h refl)
refused-is (S.Zda t r) h = absurd (h refl)
refused-is (S.Pr r) h = absurd (h refl)
refused-is (S.Tr r) h = absurd (h refl)
refused-is (S.Sr r) h = absurd (h refl)
refused-is S.Er h = absurd (h refl)
refused-is (S.Pa r) h = absurd (h refl)
refused-is (S.Ta r) h = absurd (h refl)
refused-is (S.Sa r) h = absurd (h refl)
refused-is (S.Ea r) h = absurd (h refl)

kinded : (s : Sentence) → (kind_of s ≡ 0 → ⊥) → Numbered s
kinded s h =
    let z = not-refused s h in
    record { some = λ e. absurd (h e); most = omega (arith, z.0); field = λ q. z.1 }

four : Numbered (S.Refused 4 0)
four = refused 4 0 (lit≤ tt) (lit≤ tt) (λ q. refl)

five : (w : ℕ) → Numbered (S.Refused 5 w)
five w = refused 5 w (lit≤ tt) (lit≤ tt) (λ q. absurd (q refl))

module _ (n : ℕ) (field : ℕ → List ℕ) where
  by_row : {G R : Type 0} (row : Row G R) (make : R → Sentence) → ((r : R) → kind_of (make r) ≡ 0 → ⊥)
      → Numbered (read_by S.Refused row make n field)
  unfolding read_by answer_by
  by_row {R = R} row make h = go (eqb n row.width) (row.wrong (row.got field 0) 0 0) (row.value (row.got field 0))
    where
      go : (a : Bool) (w : ℕ) (v : R) → Numbered (pick a (pick (eqb w 0) (make v) (S.Refused 5 w)) (S.Refused 4 0))
      go false w v = four
      go true w v = by (eqb w 0)
        where
          by : (b : Bool) → Numbered (pick b (make v) (S.Refused 5 w))
          by true = kinded (make v) (h v)
          by false = five w

  by_count : (t : Talker) → Numbered (gsv_of t n field)
  unfolding gsv_with answer_by
  by_count t =
      let row = gsv_row (entries_of n) in
      go (ltb 4 (entries_of n)) (row.wrong (row.got field 0) 0 0) (row.value (row.got field 0))
    where
      go : (a : Bool) (w : ℕ) (v : Values)
          → Numbered (pick a (S.Refused 4 0) (pick (eqb w 0) (S.Gsv t (gsv_made (entries_of n) v)) (S.Refused 5 w)))
      go true w v = four
      go false w v = by (eqb w 0)
        where
          by : (b : Bool) → Numbered (pick b (S.Gsv t (gsv_made (entries_of n) v)) (S.Refused 5 w))
          by true = kinded (S.Gsv t (gsv_made (entries_of n) v)) (λ e. omega (arith, e))
          by false = five w

  standard : (t : Talker) (k : Kind) → Numbered (standard_of t k n field)
  standard t K.Gga = by_row gga_row (S.Gga t) (λ r e. omega (arith, e))
  standard t K.Gll = by_row gll_row (S.Gll t) (λ r e. omega (arith, e))
  standard t K.Gsa = by_row gsa_row (λ v. S.Gsa t (gsa_made v)) (λ r e. omega (arith, e))
  standard t K.Gsv = by_count t
  standard t K.Rmc = by_row rmc_row (S.Rmc t) (λ r e. omega (arith, e))
  standard t K.Vtg = by_row vtg_row (S.Vtg t) (λ r e. omega (arith, e))
  standard t K.Zda = by_row zda_row (S.Zda t) (λ r e. omega (arith, e))

  maker : (k : Pir) → Numbered (maker_of k n field)
  maker P.Pr = by_row pirpr_row S.Pr (λ r e. omega (arith, e))
  maker P.Tr = by_row pirtr_row S.Tr (λ r e. omega (arith, e))
  maker P.Sr = by_row pirsr_row S.Sr (λ r e. omega (arith, e))
  maker P.Er = by_row pirer_row (λ v. S.Er) (λ r e. omega (arith, e))
  maker P.Pa = by_row pirpa_row S.Pa (λ r e. omega (arith, e))
  maker P.Ta = by_row pirta_row S.Ta (λ r e. omega (arith, e))
  maker P.Sa = by_row pirsa_row S.Sa (λ r e. omega (arith, e))
  maker P.Ea = by_row pirea_row S.Ea (λ r e. omega (arith, e))

  of-address : (a : Address) → Numbered (addressed a n field)
  of-address (Standard t k) = standard t k
  of-address (Maker k) = maker k
  of-address Unknown = refused 3 0 (lit≤ tt) (lit≤ tt) (λ q. refl)

least : (n : ℕ) → Answer n → n ≤ 5
least n (inl e) = omega (arith, e)
least n (inr (inl e)) = omega (arith, e)
least n (inr (inr e)) = omega (arith, e)

body-numbered : (body : List ℕ) → Numbered (read_body body)
unfolding read_body
body-numbered body = of-address (length (fields_of body) - 1) (the_fields body) (address_of body)

pub line-numbered : (l : List ℕ) → Numbered (read_line l)
unfolding read_line
line-numbered l = go (eqb (line_refusal l) 0) refl
  where
    go : (b : Bool) → eqb (line_refusal l) 0 ≡ b → Numbered (pick b (read_body (body_of l)) (S.Refused (line_refusal l) 0))
    go true q = body-numbered (body_of l)
    go false q =
        refused (line_refusal l) 0 (omega (arith, eqb-false (line_refusal l) 0 q)) (least (line_refusal l) (line-answer l)) (λ z. refl)
