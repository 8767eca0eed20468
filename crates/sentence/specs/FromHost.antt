-- What a host writes: the record of a kind that its numbers say, by the writer of that kind. What is no record is refused on line 0.
use Rattle.std.specs.Prelude.{ℕ, ◌&&◌, Bool, false, not, [], List, eqb, leb, ℤ, length}
use Rattle.address.specs.declared.Address.{Address}
use Rattle.address.specs.declared.Address.TheVariants.{Maker, Standard, Unknown}
use Rattle.address.specs.declared.Pir.{Pir}
use Rattle.address.specs.declared.Pir.TheVariants as P
use Rattle.frame.specs.declared.Written.{Written}
use Rattle.digits.specs.Pick.{pick}
use Rattle.frame.specs.Written.{fault_at, left_of, refused, Writes, written_of}
use Rattle.kind_gga.specs.Row.{gga_body, gga_wrong}
use Rattle.kind_gll.specs.Row.{gll_body, gll_wrong}
use Rattle.kind_gsa.specs.Row.{gsa_body, gsa_wrong}
use Rattle.kind_gsv.specs.Writing.{gsv_body, gsv_fault}
use Rattle.kind_rmc.specs.Row.{rmc_body, rmc_wrong}
use Rattle.kind_vtg.specs.Row.{vtg_body, vtg_wrong}
use Rattle.kind_zda.specs.Row.{zda_body, zda_wrong}
use Rattle.kind_pir_port.specs.Command.{pirpr_body, pirpr_wrong}
use Rattle.kind_pir_datum.specs.Command.{pirtr_body, pirtr_wrong}
use Rattle.kind_pir_masks.specs.Command.{pirsr_body, pirsr_wrong}
use Rattle.kind_pir_code.specs.Command.{pirer_body}
use Rattle.kind_pir_port.specs.Reply.{pirpa_body, pirpa_wrong}
use Rattle.kind_pir_datum.specs.Reply.{pirta_body, pirta_wrong}
use Rattle.kind_pir_masks.specs.Reply.{pirsa_body, pirsa_wrong}
use Rattle.kind_pir_code.specs.Reply.{pirea_body, pirea_wrong}
use Rattle.numbers.specs.Numbers.{is_there, is_whole}
use Rattle.numbers.specs.Layout.{number_at, whole}
use Rattle.sentence.specs.Sentence as S
use Rattle.sentence.specs.Sentence.{Sentence}
use Rattle.sentence.specs.Numbers.{count_of}
use Rattle.sentence.specs.Back.{address_at, record_at}

-- A refusal is handed back on line 0; one without a number is 3, as of an unknown kind.
unfoldable pub refused_by : ℕ → ℕ → Written
refused_by n field = pick (eqb n 0) (refused 3 0 0) (refused n 0 field)

-- The fault of a record, and the body of its line.
abbrev pub record_fault : Sentence → Written
record_fault (S.Gga t r) = fault_at (gga_wrong r)
record_fault (S.Gll t r) = fault_at (gll_wrong r)
record_fault (S.Gsa t r) = fault_at (gsa_wrong r)
record_fault (S.Gsv t r) = gsv_fault r
record_fault (S.Rmc t r) = fault_at (rmc_wrong r)
record_fault (S.Vtg t r) = fault_at (vtg_wrong r)
record_fault (S.Zda t r) = fault_at (zda_wrong r)
record_fault (S.Pr r) = fault_at (pirpr_wrong r)
record_fault (S.Tr r) = fault_at (pirtr_wrong r)
record_fault (S.Sr r) = fault_at (pirsr_wrong r)
record_fault S.Er = fault_at 0
record_fault (S.Pa r) = fault_at (pirpa_wrong r)
record_fault (S.Ta r) = fault_at (pirta_wrong r)
record_fault (S.Sa r) = fault_at (pirsa_wrong r)
record_fault (S.Ea r) = fault_at (pirea_wrong r)
record_fault (S.Refused n field) = refused_by n field

abbrev pub record_body : Sentence → List ℕ
record_body (S.Gga t r) = gga_body t r
record_body (S.Gll t r) = gll_body t r
record_body (S.Gsa t r) = gsa_body t r
record_body (S.Gsv t r) = gsv_body t r
record_body (S.Rmc t r) = rmc_body t r
record_body (S.Vtg t r) = vtg_body t r
record_body (S.Zda t r) = zda_body t r
record_body (S.Pr r) = pirpr_body r
record_body (S.Tr r) = pirtr_body r
record_body (S.Sr r) = pirsr_body r
record_body S.Er = pirer_body
record_body (S.Pa r) = pirpa_body r
record_body (S.Ta r) = pirta_body r
record_body (S.Sa r) = pirsa_body r
record_body (S.Ea r) = pirea_body r
record_body (S.Refused n field) = []

-- The GPS mask stands in the first field of PIRSR and of PIRSA, and every value of 32 bits is one. So a number for it that they do not hold
-- is looked for before all else of the record, and is 5 there.
abbrev pub mask_over : Pir → List ℤ → Bool
mask_over P.Pr n = false
mask_over P.Tr n = false
mask_over P.Sr n = is_there (number_at n 0) && not (is_whole (number_at n 1))
mask_over P.Er n = false
mask_over P.Pa n = false
mask_over P.Ta n = false
mask_over P.Sa n = not (is_whole (number_at n 0))
mask_over P.Ea n = false

abbrev pub over_in : Address → List ℤ → Bool
over_in (Standard t k) n = false
over_in (Maker k) n = mask_over k n
over_in Unknown n = false

unfoldable pub gps_over : ℕ → List ℤ → Bool
gps_over kind n = leb (count_of kind) (length n) && over_in (address_at kind (whole.at n 0)) n

abbrev pub numbers_fault : Bool → Sentence → Written
numbers_fault over r = pick over (refused 5 1 1) (record_fault r)

-- What a writer answers and leaves of a record that numbers say.
abbrev pub WritesRecord : Bool → Sentence → List ℕ → Written → List ℕ → Type 0
WritesRecord over r = Writes (numbers_fault over r) (record_body r)

-- What comes of numbers of a kind that are written into an output, and the output after it.
abbrev pub written_as : ℕ → List ℤ → List ℕ → Written
written_as kind n out = written_of (numbers_fault (gps_over kind n) (record_at kind n)) (record_body (record_at kind n)) (length out)

abbrev pub left_as : ℕ → List ℤ → List ℕ → List ℕ
left_as kind n out = left_of (numbers_fault (gps_over kind n) (record_at kind n)) (record_body (record_at kind n)) out
