-- A body read by the ends that were kept: up to 20 of them give all fields; with more fields every kind refuses the count, whatever
-- the fields are.
use Prim.Native.Nat.{◌-◌, ◌<◌, ◌≤◌, ℕ}
use mathlib.Core.Path.{◌∙◌, ◌≡◌, ap, sym}
use mathlib.Core.List.{List}
use native.Mathlib.Omega.{arith}
use mathlib.Core.Bool.{false}
use lib.Dec.{eqb, lit≤}
use lib.ListN.{length, replicate}
use borrow.Author.Tests.{ne_eqb}
use Rattle.address.specs.declared.Address.{Address}
use Rattle.address.specs.declared.Address.TheVariants.{Maker, Standard, Unknown}
use Rattle.address.specs.declared.Kind.{Kind}
use Rattle.address.specs.declared.Kind.TheVariants as K
use Rattle.address.specs.declared.Pir.{Pir}
use Rattle.address.specs.declared.Pir.TheVariants as P
use Rattle.address.specs.declared.Talker.{Talker}
use Rattle.address.specs.Address.{address_of}
use Rattle.fields.specs.Fields.{fields_of}
use Rattle.fields.specs.Places.{fields_by, Placed, the_fields}
use Rattle.fields.proofs.AllFields.{all-fields}
use Rattle.sentence.specs.Sentence as S
use Rattle.sentence.specs.Sentence.{Refused, Sentence}
use Rattle.kind_gga.specs.Row.{gga_row}
use Rattle.kind_gll.specs.Row.{gll_row}
use Rattle.kind_rmc.specs.Row.{rmc_row}
use Rattle.kind_vtg.specs.Row.{vtg_row}
use Rattle.kind_zda.specs.Row.{zda_row}
use Rattle.kind_gsa.specs.Row.{gsa_made, gsa_row}
use Rattle.kind_gsv.specs.Row.{entries_of, gsv_with}
use Rattle.kind_pir_port.specs.Command.{pirpr_row}
use Rattle.kind_pir_datum.specs.Command.{pirtr_row}
use Rattle.kind_pir_masks.specs.Command.{pirsr_row}
use Rattle.kind_pir_code.specs.Command.{pirer_row}
use Rattle.kind_pir_port.specs.Reply.{pirpa_row}
use Rattle.kind_pir_datum.specs.Reply.{pirta_row}
use Rattle.kind_pir_masks.specs.Reply.{pirsa_row}
use Rattle.kind_pir_code.specs.Reply.{pirea_row}
use Rattle.form.specs.Row.{Row}
use Rattle.form.specs.Kind.{read_by}
use Rattle.sentence.specs.Lines.{addressed, maker_of, read_body, standard_of}

abbrev miscounted : Sentence
miscounted = Refused 4 0

module _ (n : ℕ) (field : ℕ → List ℕ) (h : 19 < n) where
  too_many : {A G R : Type 0} (refuse : ℕ → ℕ → A) (row : Row G R) (make : R → A) → row.width ≤ 19
      → read_by refuse row make n field ≡ refuse
      4 0
  unfolding read_by
  too_many refuse row make w = rw (ne_eqb n row.width (λ e. omega (arith, w, h, e)))

  many-standard : (t : Talker) (k : Kind) → standard_of t k n field ≡ miscounted
  unfolding gga_row gll_row rmc_row vtg_row zda_row gsa_row gsv_with entries_of
  many-standard t K.Gga = too_many Refused gga_row (S.Gga t) (lit≤ tt)
  many-standard t K.Gll = too_many Refused gll_row (S.Gll t) (lit≤ tt)
  many-standard t K.Gsa = too_many Refused gsa_row (λ v. S.Gsa t (gsa_made v)) (lit≤ tt)
  many-standard t K.Gsv =
      let not_in : (m : ℕ) → m ≤ 19 → eqb n m ≡ false = λ m w. ne_eqb n m (λ e. omega (arith, w, h, e)) in
      rw (not_in 3 (lit≤ tt), not_in 7 (lit≤ tt), not_in 11 (lit≤ tt), not_in 15 (lit≤ tt), not_in 19 (lit≤ tt))
  many-standard t K.Rmc = too_many Refused rmc_row (S.Rmc t) (lit≤ tt)
  many-standard t K.Vtg = too_many Refused vtg_row (S.Vtg t) (lit≤ tt)
  many-standard t K.Zda = too_many Refused zda_row (S.Zda t) (lit≤ tt)

  many-maker : (k : Pir) → maker_of k n field ≡ miscounted
  unfolding pirpr_row pirtr_row pirsr_row pirer_row pirpa_row pirta_row pirsa_row pirea_row
  many-maker P.Pr = too_many Refused pirpr_row S.Pr (lit≤ tt)
  many-maker P.Tr = too_many Refused pirtr_row S.Tr (lit≤ tt)
  many-maker P.Sr = too_many Refused pirsr_row S.Sr (lit≤ tt)
  many-maker P.Er = too_many Refused pirer_row (λ v. S.Er) (lit≤ tt)
  many-maker P.Pa = too_many Refused pirpa_row S.Pa (lit≤ tt)
  many-maker P.Ta = too_many Refused pirta_row S.Ta (lit≤ tt)
  many-maker P.Sa = too_many Refused pirsa_row S.Sa (lit≤ tt)
  many-maker P.Ea = too_many Refused pirea_row S.Ea (lit≤ tt)

-- b is a body whose places were found, a its address
module _ (b : List ℕ) (count : ℕ) (ends : List ℕ) (q : Placed b (replicate 20 0) count ends) (a : Address) (i : a ≡ address_of b) where
  read_as : (x : Address) → a ≡ x → addressed x (count - 1) (the_fields b) ≡ read_body b
  unfolding read_body
  read_as x e = rw (← i, e, q.fields)

  pub read-unknown : a ≡ Unknown → Refused 3 0 ≡ read_body b
  read-unknown e = read_as Unknown e

  module _ (h : 20 < count) where
    pub read-many : (t : Talker) (k : Kind) → a ≡ Standard t k → miscounted ≡ read_body b
    read-many t k e = sym (many-standard (count - 1) (the_fields b) (omega arith) t k) ∙ read_as (Standard t k) e

    pub read-many-maker : (k : Pir) → a ≡ Maker k → miscounted ≡ read_body b
    read-many-maker k e = sym (many-maker (count - 1) (the_fields b) (omega arith) k) ∙ read_as (Maker k) e

  module _ (h : count ≤ 20) where
    by-ends : fields_by ends b ≡ the_fields b
    by-ends = ap (λ (p : List ℕ). fields_by p b) q.ends ∙ all-fields b 20 (omega (arith, q.fields))

    pub read-few : (t : Talker) (k : Kind) → a ≡ Standard t k → standard_of t k (count - 1) (fields_by ends b) ≡ read_body b
    read-few t k e = ap (standard_of t k (count - 1)) by-ends ∙ read_as (Standard t k) e

    pub read-few-maker : (k : Pir) → a ≡ Maker k → maker_of k (count - 1) (fields_by ends b) ≡ read_body b
    read-few-maker k e = ap (maker_of k (count - 1)) by-ends ∙ read_as (Maker k) e
