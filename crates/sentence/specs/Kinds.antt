-- Each kind by its row: so many fields read to its sentence, or to a refusal.
use Rattle.std.specs.Prelude.{ℕ, List}
use Rattle.address.specs.declared.Talker.{Talker}
use Rattle.form.specs.Kind.{read_by}
use Rattle.kind_gga.specs.Row.{gga_row}
use Rattle.kind_gll.specs.Row.{gll_row}
use Rattle.kind_gsa.specs.Row.{gsa_made, gsa_row}
use Rattle.kind_gsv.specs.Row.{entries_of, gsv_with}
use Rattle.kind_rmc.specs.Row.{rmc_row}
use Rattle.kind_vtg.specs.Row.{vtg_row}
use Rattle.kind_zda.specs.Row.{zda_row}
use Rattle.kind_pir_port.specs.Command.{pirpr_row}
use Rattle.kind_pir_datum.specs.Command.{pirtr_row}
use Rattle.kind_pir_masks.specs.Command.{pirsr_row}
use Rattle.kind_pir_code.specs.Command.{pirer_row}
use Rattle.kind_pir_port.specs.Reply.{pirpa_row}
use Rattle.kind_pir_datum.specs.Reply.{pirta_row}
use Rattle.kind_pir_masks.specs.Reply.{pirsa_row}
use Rattle.kind_pir_code.specs.Reply.{pirea_row}
use Rattle.sentence.specs.Sentence as S
use Rattle.sentence.specs.Sentence.{Sentence}

abbrev pub gga_of : Talker → ℕ → (ℕ → List ℕ) → Sentence
gga_of t = read_by S.Refused gga_row (S.Gga t)

abbrev pub gll_of : Talker → ℕ → (ℕ → List ℕ) → Sentence
gll_of t = read_by S.Refused gll_row (S.Gll t)

abbrev pub gsa_of : Talker → ℕ → (ℕ → List ℕ) → Sentence
gsa_of t = read_by S.Refused gsa_row (λ v. S.Gsa t (gsa_made v))

abbrev pub gsv_of : Talker → ℕ → (ℕ → List ℕ) → Sentence
gsv_of t n field = gsv_with S.Refused (S.Gsv t) (entries_of n) field

abbrev pub rmc_of : Talker → ℕ → (ℕ → List ℕ) → Sentence
rmc_of t = read_by S.Refused rmc_row (S.Rmc t)

abbrev pub vtg_of : Talker → ℕ → (ℕ → List ℕ) → Sentence
vtg_of t = read_by S.Refused vtg_row (S.Vtg t)

abbrev pub zda_of : Talker → ℕ → (ℕ → List ℕ) → Sentence
zda_of t = read_by S.Refused zda_row (S.Zda t)

abbrev pub pirpr_of : ℕ → (ℕ → List ℕ) → Sentence
pirpr_of = read_by S.Refused pirpr_row S.Pr

abbrev pub pirtr_of : ℕ → (ℕ → List ℕ) → Sentence
pirtr_of = read_by S.Refused pirtr_row S.Tr

abbrev pub pirsr_of : ℕ → (ℕ → List ℕ) → Sentence
pirsr_of = read_by S.Refused pirsr_row S.Sr

abbrev pub pirer_of : ℕ → (ℕ → List ℕ) → Sentence
pirer_of = read_by S.Refused pirer_row (λ v. S.Er)

abbrev pub pirpa_of : ℕ → (ℕ → List ℕ) → Sentence
pirpa_of = read_by S.Refused pirpa_row S.Pa

abbrev pub pirta_of : ℕ → (ℕ → List ℕ) → Sentence
pirta_of = read_by S.Refused pirta_row S.Ta

abbrev pub pirsa_of : ℕ → (ℕ → List ℕ) → Sentence
pirsa_of = read_by S.Refused pirsa_row S.Sa

abbrev pub pirea_of : ℕ → (ℕ → List ℕ) → Sentence
pirea_of = read_by S.Refused pirea_row S.Ea
