-- The place of a 5 in GGA, GLL, RMC, VTG and ZDA.
use Rattle.address.specs.declared.Talker.{Talker}
use Rattle.form.proofs.PlaceKind.{Placed, placed}
use Rattle.sentence.specs.Sentence as S
use Rattle.kind_gga.specs.Row.{gga_row}
use Rattle.kind_gga.proofs.Laws.{prefix-gga}
use Rattle.kind_gll.specs.Row.{gll_row}
use Rattle.kind_gll.proofs.Laws.{prefix-gll}
use Rattle.kind_rmc.specs.Row.{rmc_row}
use Rattle.kind_rmc.proofs.Laws.{prefix-rmc}
use Rattle.kind_vtg.specs.Row.{vtg_row}
use Rattle.kind_vtg.proofs.Laws.{prefix-vtg}
use Rattle.kind_zda.specs.Row.{zda_row}
use Rattle.kind_zda.proofs.Laws.{prefix-zda, usual_zda}

-- What this says of each.
module _ (t : Talker) where
  pub gga : Placed S.Refused gga_row (S.Gga t) (λ field. Unit {0})
  gga = placed S.Refused gga_row (S.Gga t) prefix-gga

  pub gll : Placed S.Refused gll_row (S.Gll t) (λ field. Unit {0})
  gll = placed S.Refused gll_row (S.Gll t) prefix-gll

  pub rmc : Placed S.Refused rmc_row (S.Rmc t) (λ field. Unit {0})
  rmc = placed S.Refused rmc_row (S.Rmc t) prefix-rmc

  pub vtg : Placed S.Refused vtg_row (S.Vtg t) (λ field. Unit {0})
  vtg = placed S.Refused vtg_row (S.Vtg t) prefix-vtg

  pub zda : Placed S.Refused zda_row (S.Zda t) (λ field. usual_zda field 0)
  zda = placed S.Refused zda_row (S.Zda t) prefix-zda
