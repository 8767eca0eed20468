-- What a kind's reader tells and leaves is what the sentence of its line comes to for a host: a refusal is told, a record is laid.
use Prim.Native.Nat.{ℕ}
use mathlib.Core.Path.{◌∙◌, ◌≡◌, ap, refl, sym}
use mathlib.Core.Bool.{Bool, false, true}
use mathlib.Core.List.{List}
use borrow.Author.Tests.{ne_eqb}
use native.Mathlib.Omega.{arith}
use lib.Dec.{eqb, leb, ltb}
use lib.IntN.{ℤ}
use lib.ListN.{length}
use Rattle.digits.specs.Pick.{pick}
use Rattle.address.specs.declared.Kind.{Kind}
use Rattle.address.specs.declared.Kind.TheVariants as K
use Rattle.address.specs.declared.Pir.{Pir}
use Rattle.address.specs.declared.Pir.TheVariants as P
use Rattle.address.specs.declared.Talker.{Talker}
use Rattle.form.specs.Kind.{answer_by, read_by}
use Rattle.form.specs.Row.{Row}
use Rattle.numbers.specs.Told.{Answer, gives, refuses, Tells, told}
use Rattle.numbers.specs.declared.Told.{Told}
use Rattle.numbers.proofs.Rows.{laid_none, tells-refused}
use Rattle.kind_gga.specs.Row.{gga_row, gga_told}
use Rattle.kind_gll.specs.Row.{gll_row, gll_told}
use Rattle.kind_gsa.specs.Row.{gsa_made, gsa_row, gsa_told}
use Rattle.kind_gsv.specs.Row.{entries_of, gsv_made, gsv_numbers, gsv_row, gsv_told, gsv_with, Values}
use Rattle.kind_rmc.specs.Row.{rmc_row, rmc_told}
use Rattle.kind_vtg.specs.Row.{vtg_row, vtg_told}
use Rattle.kind_zda.specs.Row.{zda_row, zda_told}
use Rattle.kind_pir_port.specs.Command.{pirpr_row, pirpr_told}
use Rattle.kind_pir_datum.specs.Command.{pirtr_row, pirtr_told}
use Rattle.kind_pir_masks.specs.Command.{pirsr_row, pirsr_told}
use Rattle.kind_pir_code.specs.Command.{pirer_row, pirer_told}
use Rattle.kind_pir_port.specs.Reply.{pirpa_row, pirpa_told}
use Rattle.kind_pir_datum.specs.Reply.{pirta_row, pirta_told}
use Rattle.kind_pir_masks.specs.Reply.{pirsa_row, pirsa_told}
use Rattle.kind_pir_code.specs.Reply.{pirea_row, pirea_told}
use Rattle.sentence.specs.Lines.{maker_of, standard_of}
use Rattle.sentence.specs.Sentence as S
use Rattle.sentence.specs.Sentence.{Sentence}
use Rattle.sentence.specs.ToHost.{handed, told_of}

module _ (out : List ℤ) where
  -- A refusal is told with its field, and nothing is laid.
  pub refused-told : (n field : ℕ) → (n ≡ 0 → ⊥) → refuses out n field ≡ handed (S.Refused n field) out
  unfolding told_of
  refused-told n field h =
      ap (λ (l : List ℤ). (told n 0 field, l)) (laid_none out).1
      ∙ ap (λ (b : Bool). (
        pick b (pick (leb 0 (length out)) (told 0 0 0) (told 8 0 0)) (told n 0 field),
        (handed (S.Refused n field) out
            ).1,
      )) (sym (ne_eqb n 0 h))

  four : refuses out 4 0 ≡ handed (S.Refused 4 0) out
  four = refused-told 4 0 (λ z. omega (arith, z))

  five : (field : ℕ) → refuses out 5 field ≡ handed (S.Refused 5 field) out
  five field = refused-told 5 field (λ z. omega (arith, z))

  module _ (n : ℕ) (field : ℕ → List ℕ) where
    by_row : {G R : Type 0} (row : Row G R) (make : R → Sentence) (give : R → Answer) → ((r : R) → give r ≡ handed (make r) out)
        → read_by (refuses out) row give n field ≡ handed (read_by S.Refused row make n field) out
    unfolding read_by answer_by
    by_row {R = R} row make give e = go (eqb n row.width) (row.wrong (row.got field 0) 0 0) (row.value (row.got field 0))
      where
        go : (a : Bool) (w : ℕ) (v : R) → pick a (pick (eqb w 0) (give v) (refuses out 5 w)) (refuses out 4 0)
            ≡ handed (pick a (pick (eqb w 0) (make v) (S.Refused 5 w)) (S.Refused 4 0)) out
        go false w v = four
        go true w v = by (eqb w 0)
          where
            by : (b : Bool) → pick b (give v) (refuses out 5 w) ≡ handed (pick b (make v) (S.Refused 5 w)) out
            by true = e v
            by false = five w

    by_count : (t : Talker) → gsv_told out t n field ≡ handed (standard_of t K.Gsv n field) out
    unfolding gsv_with answer_by gives told_of
    by_count t =
        let row = gsv_row (entries_of n) in
        go (ltb 4 (entries_of n)) (row.wrong (row.got field 0) 0 0) (row.value (row.got field 0))
      where
        give : Values → Answer
        give v = gives out 4 (gsv_numbers t (gsv_made (entries_of n) v))

        go : (a : Bool) (w : ℕ) (v : Values) → pick a (refuses out 4 0) (pick (eqb w 0) (give v) (refuses out 5 w))
            ≡ handed (pick a (S.Refused 4 0) (pick (eqb w 0) (S.Gsv t (gsv_made (entries_of n) v)) (S.Refused 5 w))) out
        go true w v = four
        go false w v = by (eqb w 0)
          where
            by : (b : Bool) → pick b (give v) (refuses out 5 w) ≡ handed (pick b (S.Gsv t (gsv_made (entries_of n) v)) (S.Refused 5 w)) out
            by true = refl
            by false = five w

    -- The readers of a talker's kinds, and of the maker's.
    abbrev pub standard_told : Talker → Kind → Answer
    standard_told t K.Gga = gga_told out t n field
    standard_told t K.Gll = gll_told out t n field
    standard_told t K.Gsa = gsa_told out t n field
    standard_told t K.Gsv = gsv_told out t n field
    standard_told t K.Rmc = rmc_told out t n field
    standard_told t K.Vtg = vtg_told out t n field
    standard_told t K.Zda = zda_told out t n field

    pub standard-told : (t : Talker) (k : Kind) → standard_told t k ≡ handed (standard_of t k n field) out
    unfolding gives told_of
    standard-told t K.Gga = by_row gga_row (S.Gga t) _ (λ r. refl)
    standard-told t K.Gll = by_row gll_row (S.Gll t) _ (λ r. refl)
    standard-told t K.Gsa = by_row gsa_row (λ v. S.Gsa t (gsa_made v)) _ (λ r. refl)
    standard-told t K.Gsv = by_count t
    standard-told t K.Rmc = by_row rmc_row (S.Rmc t) _ (λ r. refl)
    standard-told t K.Vtg = by_row vtg_row (S.Vtg t) _ (λ r. refl)
    standard-told t K.Zda = by_row zda_row (S.Zda t) _ (λ r. refl)

    abbrev pub maker_told : Pir → Answer
    maker_told P.Pr = pirpr_told out n field
    maker_told P.Tr = pirtr_told out n field
    maker_told P.Sr = pirsr_told out n field
    maker_told P.Er = pirer_told out n field
    maker_told P.Pa = pirpa_told out n field
    maker_told P.Ta = pirta_told out n field
    maker_told P.Sa = pirsa_told out n field
    maker_told P.Ea = pirea_told out n field

    pub maker-told : (k : Pir) → maker_told k ≡ handed (maker_of k n field) out
    unfolding gives told_of
    maker-told P.Pr = by_row pirpr_row S.Pr _ (λ r. refl)
    maker-told P.Tr = by_row pirtr_row S.Tr _ (λ r. refl)
    maker-told P.Sr = by_row pirsr_row S.Sr _ (λ r. refl)
    maker-told P.Er = by_row pirer_row (λ v. S.Er) _ (λ r. refl)
    maker-told P.Pa = by_row pirpa_row S.Pa _ (λ r. refl)
    maker-told P.Ta = by_row pirta_row S.Ta _ (λ r. refl)
    maker-told P.Sa = by_row pirsa_row S.Sa _ (λ r. refl)
    maker-told P.Ea = by_row pirea_row S.Ea _ (λ r. refl)

-- What is told of a refusal is what the sentence comes to that was refused.
pub refused_as : (out : List ℤ) (t : Told) (n : ℕ) (s : Sentence) → t ≡ told n 0 0 → (n ≡ 0 → ⊥) → S.Refused n 0 ≡ s
    → Tells (handed s out) t out
refused_as out t n s e h i = tells-refused e (refused-told out n 0 h ∙ ap (λ (x : Sentence). handed x out) i)
