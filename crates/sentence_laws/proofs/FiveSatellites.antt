-- The place of a 5 in GSA and GSV.
use Prim.Native.Nat.{ℕ}
use Rattle.address.specs.declared.Talker.{Talker}
use Rattle.form.proofs.PlaceKind.{Placed, placed}
use Rattle.sentence.specs.Sentence as S
use Rattle.kind_gsa.specs.Row.{gsa_made, gsa_row}
use Rattle.kind_gsa.proofs.Laws.{prefix-gsa}
use Rattle.sentence_laws.proofs.Gsv.{gsv_is}
use Rattle.kind_gsv.specs.Row.{gsv_row}
use Rattle.kind_gsv.proofs.Laws.{prefix-gsv}

-- What this says of each.
pub gsa : (t : Talker) → Placed S.Refused gsa_row (λ v. S.Gsa t (gsa_made v)) (λ field. Unit {0})
gsa t = placed S.Refused gsa_row (λ v. S.Gsa t (gsa_made v)) prefix-gsa

pub gsv : (t : Talker) (count : ℕ) → Placed S.Refused (gsv_row count) (gsv_is t count) (λ field. Unit {0})
gsv t count = placed S.Refused (gsv_row count) (gsv_is t count) (prefix-gsv count)
