-- The place of a 5 in the maker's commands and their replies.
use Rattle.form.proofs.PlaceKind.{Placed, placed}
use Rattle.sentence.specs.Sentence as S
use Rattle.kind_pir_port.specs.Command.{pirpr_row}
use Rattle.kind_pir_port.specs.Reply.{pirpa_row}
use Rattle.kind_pir_port.proofs.Laws.{prefix-pirpa, prefix-pirpr}
use Rattle.kind_pir_datum.specs.Command.{pirtr_row}
use Rattle.kind_pir_datum.specs.Reply.{pirta_row}
use Rattle.kind_pir_datum.proofs.Laws.{prefix-pirta, prefix-pirtr}
use Rattle.kind_pir_masks.specs.Command.{pirsr_row}
use Rattle.kind_pir_masks.specs.Reply.{pirsa_row}
use Rattle.kind_pir_masks.proofs.Laws.{prefix-pirsa, prefix-pirsr}
use Rattle.kind_pir_code.specs.Command.{pirer_row}
use Rattle.kind_pir_code.specs.Reply.{pirea_row}
use Rattle.kind_pir_code.proofs.Laws.{prefix-pirea, prefix-pirer}

-- What this says of each.
pub pirpr : Placed S.Refused pirpr_row S.Pr (λ field. Unit {0})
pirpr = placed S.Refused pirpr_row S.Pr prefix-pirpr

pub pirtr : Placed S.Refused pirtr_row S.Tr (λ field. Unit {0})
pirtr = placed S.Refused pirtr_row S.Tr prefix-pirtr

pub pirsr : Placed S.Refused pirsr_row S.Sr (λ field. Unit {0})
pirsr = placed S.Refused pirsr_row S.Sr prefix-pirsr

pub pirer : Placed S.Refused pirer_row (λ v. S.Er) (λ field. Unit {0})
pirer = placed S.Refused pirer_row (λ v. S.Er) prefix-pirer

pub pirpa : Placed S.Refused pirpa_row S.Pa (λ field. Unit {0})
pirpa = placed S.Refused pirpa_row S.Pa prefix-pirpa

pub pirta : Placed S.Refused pirta_row S.Ta (λ field. Unit {0})
pirta = placed S.Refused pirta_row S.Ta prefix-pirta

pub pirsa : Placed S.Refused pirsa_row S.Sa (λ field. Unit {0})
pirsa = placed S.Refused pirsa_row S.Sa prefix-pirsa

pub pirea : Placed S.Refused pirea_row S.Ea (λ field. Unit {0})
pirea = placed S.Refused pirea_row S.Ea prefix-pirea
