-- GGA, GLL, RMC, VTG and ZDA there and back: each row again, law by law; the laws of all rows give the rest.
use Prim.Native.Nat.{◌≤◌}
use mathlib.Core.Path.{◌≡◌, refl}
use lib.Dec.{lit<, lit≤}
use lib.ListN.{length}
use Rattle.address.specs.declared.Address.TheVariants as A
use Rattle.address.specs.declared.Kind.TheVariants as K
use Rattle.address.specs.declared.Talker.{Talker}
use Rattle.kind_gll.specs.declared.Gll.{Gll}
use Rattle.sentence.specs.Sentence as S
use Rattle.kind_vtg.specs.declared.Vtg.{Vtg}
use Rattle.kind_zda.specs.declared.Zda.{Zda}
use Rattle.kind_gga.specs.Row.{gga_row}
use Rattle.kind_gga.proofs.Laws.{tight-gga}
use Rattle.kind_gll.specs.Row.{gll_body, gll_row, gll_wrong}
use Rattle.kind_gll.proofs.Laws.{tight-gll}
use Rattle.kind_rmc.specs.Row.{rmc_row}
use Rattle.kind_rmc.proofs.Laws.{tight-rmc}
use Rattle.kind_vtg.specs.Row.{vtg_body, vtg_row, vtg_wrong}
use Rattle.kind_vtg.proofs.Laws.{tight-vtg}
use Rattle.kind_zda.specs.Row.{zda_body, zda_row, zda_wrong}
use Rattle.kind_zda.proofs.Laws.{tight-zda}
use Rattle.sentence_laws.proofs.KindLaws.{Standard, standard, standard-fits}
use Rattle.sentence_laws.proofs.Known.{known-gga, known-gll, known-rmc, known-vtg, known-zda}

pub gga : Standard "GGA" gga_row S.Gga
unfolding gga_row
gga =
    standard "GGA" gga_row S.Gga tight-gga refl ((lit< tt, lit< tt), ((lit< tt, lit< tt), ((lit< tt, lit< tt), tt)))
    (lit≤ tt) (λ t. A.Standard t K.Gga) known-gga (λ t field. refl)

pub gll : Standard "GLL" gll_row S.Gll
unfolding gll_row
gll =
    standard "GLL" gll_row S.Gll tight-gll refl ((lit< tt, lit< tt), ((lit< tt, lit< tt), ((lit< tt, lit< tt), tt)))
    (lit≤ tt) (λ t. A.Standard t K.Gll) known-gll (λ t field. refl)

pub gll-fits : (t : Talker) (r : Gll) → gll_wrong r ≡ 0 → length (gll_body t r) ≤ 76
unfolding gll_row
gll-fits = standard-fits "GLL" gll_row S.Gll tight-gll refl (lit≤ tt)

pub rmc : Standard "RMC" rmc_row S.Rmc
unfolding rmc_row
rmc =
    standard "RMC" rmc_row S.Rmc tight-rmc refl ((lit< tt, lit< tt), ((lit< tt, lit< tt), ((lit< tt, lit< tt), tt)))
    (lit≤ tt) (λ t. A.Standard t K.Rmc) known-rmc (λ t field. refl)

pub vtg : Standard "VTG" vtg_row S.Vtg
unfolding vtg_row
vtg =
    standard "VTG" vtg_row S.Vtg tight-vtg refl ((lit< tt, lit< tt), ((lit< tt, lit< tt), ((lit< tt, lit< tt), tt)))
    (lit≤ tt) (λ t. A.Standard t K.Vtg) known-vtg (λ t field. refl)

pub vtg-fits : (t : Talker) (r : Vtg) → vtg_wrong r ≡ 0 → length (vtg_body t r) ≤ 76
unfolding vtg_row
vtg-fits = standard-fits "VTG" vtg_row S.Vtg tight-vtg refl (lit≤ tt)

pub zda : Standard "ZDA" zda_row S.Zda
unfolding zda_row
zda =
    standard "ZDA" zda_row S.Zda tight-zda refl ((lit< tt, lit< tt), ((lit< tt, lit< tt), ((lit< tt, lit< tt), tt)))
    (lit≤ tt) (λ t. A.Standard t K.Zda) known-zda (λ t field. refl)

pub zda-fits : (t : Talker) (r : Zda) → zda_wrong r ≡ 0 → length (zda_body t r) ≤ 76
unfolding zda_row
zda-fits = standard-fits "ZDA" zda_row S.Zda tight-zda refl (lit≤ tt)
