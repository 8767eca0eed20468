-- Records from numbers: the record of a kind that has these numbers, by the kind's layout, with the number of the talker in place 0 of a
-- talker's sentence. A kind that is none, or a talker that is none, is 3; fewer numbers than the kind has are 5; numbers past them are not
-- looked at.
use Rattle.std.specs.Prelude.{ℕ, ◌&&◌, [], ◌∷◌, List, ltb, ℤ, get_or, length}
use Rattle.address.specs.declared.Address.{Address}
use Rattle.address.specs.declared.Address.TheVariants.{Maker, Standard, Unknown}
use Rattle.address.specs.declared.Kind.{Kind}
use Rattle.address.specs.declared.Kind.TheVariants as K
use Rattle.address.specs.declared.Pir.{Pir}
use Rattle.address.specs.declared.Pir.TheVariants as P
use Rattle.address.specs.declared.Talker.{Talker}
use Rattle.digits.specs.Pick.{pick}
use Rattle.numbers.specs.Numbers.{talker_of}
use Rattle.numbers.specs.Layout.{whole}
use Rattle.kind_gga.specs.Row.{gga_at}
use Rattle.kind_gll.specs.Row.{gll_at}
use Rattle.kind_gsa.specs.Row.{gsa_at}
use Rattle.kind_gsv.specs.Row.{gsv_at}
use Rattle.kind_rmc.specs.Row.{rmc_at}
use Rattle.kind_vtg.specs.Row.{vtg_at}
use Rattle.kind_zda.specs.Row.{zda_at}
use Rattle.kind_pir_port.specs.Command.{pirpr_at}
use Rattle.kind_pir_datum.specs.Command.{pirtr_at}
use Rattle.kind_pir_masks.specs.Command.{pirsr_at}
use Rattle.kind_pir_port.specs.Reply.{pirpa_at}
use Rattle.kind_pir_datum.specs.Reply.{pirta_at}
use Rattle.kind_pir_masks.specs.Reply.{pirsa_at}
use Rattle.kind_pir_code.specs.Reply.{pirea_at}
use Rattle.sentence.specs.Numbers.{count_of}
use Rattle.sentence.specs.Sentence as S
use Rattle.sentence.specs.Sentence.{Sentence}

-- A talker's sentence, and one of the maker.
abbrev pub standard_at : Talker → Kind → List ℤ → Sentence
standard_at t K.Gga n = S.Gga t (gga_at n)
standard_at t K.Gll n = S.Gll t (gll_at n)
standard_at t K.Gsa n = S.Gsa t (gsa_at n)
standard_at t K.Gsv n = S.Gsv t (gsv_at n)
standard_at t K.Rmc n = S.Rmc t (rmc_at n)
standard_at t K.Vtg n = S.Vtg t (vtg_at n)
standard_at t K.Zda n = S.Zda t (zda_at n)

abbrev pub maker_at : Pir → List ℤ → Sentence
maker_at P.Pr n = S.Pr (pirpr_at n)
maker_at P.Tr n = S.Tr (pirtr_at n)
maker_at P.Sr n = S.Sr (pirsr_at n)
maker_at P.Er n = S.Er
maker_at P.Pa n = S.Pa (pirpa_at n)
maker_at P.Ta n = S.Ta (pirta_at n)
maker_at P.Sa n = S.Sa (pirsa_at n)
maker_at P.Ea n = S.Ea (pirea_at n)

abbrev pub addressed : Address → List ℤ → Sentence
addressed (Standard t k) n = standard_at t k n
addressed (Maker k) n = maker_at k n
addressed Unknown n = S.Refused 3 0

-- The kinds by number, from 1; kinds 1 to 7 are a talker's.
abbrev pub maker_kinds : List Address
maker_kinds = Maker P.Pr ∷ Maker P.Tr ∷ Maker P.Sr ∷ Maker P.Er ∷ Maker P.Pa ∷ Maker P.Ta ∷ Maker P.Sa ∷ Maker P.Ea ∷ []

abbrev pub standard_kinds : Talker → List Address
standard_kinds t =
    Standard t K.Gga ∷ Standard t K.Gll ∷ Standard t K.Gsa ∷ Standard t K.Gsv ∷ Standard t K.Rmc ∷ Standard t K.Vtg ∷ Standard t K.Zda
    ∷ maker_kinds

unfoldable pub known_of : ℕ → Talker → Address
known_of kind t = get_or (Unknown ∷ standard_kinds t) kind Unknown

unfoldable pub address_at : ℕ → ℕ → Address
address_at kind talker = pick (ltb kind 8 && ltb 4 talker) Unknown (known_of kind (talker_of talker))

unfoldable pub record_at : ℕ → List ℤ → Sentence
record_at kind n =
    pick (ltb (length n) (count_of kind)) (S.Refused 5 0) (addressed (address_at kind (whole.at n 0)) n)
