-- A line read: 1 and 2 by the line rule, 3 for an unknown address, then the kind's own 4 and 5, or its record.
use Rattle.std.specs.Prelude.{◌-◌, ℕ, List, eqb, length}
use Rattle.line.specs.Line.{body_of, line_refusal}
use Rattle.address.specs.declared.Address.{Address}
use Rattle.address.specs.declared.Address.TheVariants.{Maker, Standard, Unknown}
use Rattle.address.specs.declared.Kind.{Kind}
use Rattle.address.specs.declared.Kind.TheVariants as K
use Rattle.address.specs.declared.Pir.{Pir}
use Rattle.address.specs.declared.Pir.TheVariants as P
use Rattle.address.specs.declared.Talker.{Talker}
use Rattle.address.specs.Address.{address_of}
use Rattle.fields.specs.Fields.{fields_of}
use Rattle.fields.specs.Places.{the_fields}
use Rattle.digits.specs.Pick.{pick}
use Rattle.sentence.specs.Kinds.{gga_of, gll_of, gsa_of, gsv_of, pirea_of, pirer_of, pirpa_of, pirpr_of, pirsa_of, pirsr_of, pirta_of, pirtr_of}
use Rattle.sentence.specs.Kinds.{rmc_of, vtg_of, zda_of}
use Rattle.sentence.specs.Sentence as S
use Rattle.sentence.specs.Sentence.{Refused, Sentence}

-- A talker's sentence of n fields.
abbrev pub standard_of : Talker → Kind → ℕ → (ℕ → List ℕ) → Sentence
standard_of t K.Gga n field = gga_of t n field
standard_of t K.Gll n field = gll_of t n field
standard_of t K.Gsa n field = gsa_of t n field
standard_of t K.Gsv n field = gsv_of t n field
standard_of t K.Rmc n field = rmc_of t n field
standard_of t K.Vtg n field = vtg_of t n field
standard_of t K.Zda n field = zda_of t n field

-- One of the maker.
abbrev pub maker_of : Pir → ℕ → (ℕ → List ℕ) → Sentence
maker_of P.Pr n field = pirpr_of n field
maker_of P.Tr n field = pirtr_of n field
maker_of P.Sr n field = pirsr_of n field
maker_of P.Er n field = pirer_of n field
maker_of P.Pa n field = pirpa_of n field
maker_of P.Ta n field = pirta_of n field
maker_of P.Sa n field = pirsa_of n field
maker_of P.Ea n field = pirea_of n field

abbrev pub addressed : Address → ℕ → (ℕ → List ℕ) → Sentence
addressed (Standard t k) n field = standard_of t k n field
addressed (Maker k) n field = maker_of k n field
addressed Unknown n field = Refused 3 0

-- The fields after the address are one less than all.
unfoldable pub read_body : List ℕ → Sentence
read_body body = addressed (address_of body) (length (fields_of body) - 1) (the_fields body)

unfoldable pub read_line : List ℕ → Sentence
read_line l = pick (eqb (line_refusal l) 0) (read_body (body_of l)) (Refused (line_refusal l) 0)

-- Document 01's number and field of each case: 0 and 0 for a sentence that was read.
pub record Refusal : Type 0 where
  pub no : ℕ
  pub field : ℕ

abbrev pub refusal : ℕ → ℕ → Refusal
refusal n f = record { no = n; field = f }

abbrev pub refusal_of : Sentence → Refusal
refusal_of (S.Refused n f) = refusal n f
refusal_of (S.Gga t r) = refusal 0 0
refusal_of (S.Gll t r) = refusal 0 0
refusal_of (S.Gsa t r) = refusal 0 0
refusal_of (S.Gsv t r) = refusal 0 0
refusal_of (S.Rmc t r) = refusal 0 0
refusal_of (S.Vtg t r) = refusal 0 0
refusal_of (S.Zda t r) = refusal 0 0
refusal_of (S.Pr r) = refusal 0 0
refusal_of (S.Tr r) = refusal 0 0
refusal_of (S.Sr r) = refusal 0 0
refusal_of S.Er = refusal 0 0
refusal_of (S.Pa r) = refusal 0 0
refusal_of (S.Ta r) = refusal 0 0
refusal_of (S.Sa r) = refusal 0 0
refusal_of (S.Ea r) = refusal 0 0
