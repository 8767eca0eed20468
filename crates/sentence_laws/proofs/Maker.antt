-- The commands of the maker and their replies there and back: each row again, law by law; the laws of all rows give the rest.
use mathlib.Core.Path.{◌≡◌, refl}
use lib.Dec.{lit<, lit≤}
use Rattle.address.specs.declared.Address.TheVariants as A
use Rattle.address.specs.declared.Pir.TheVariants as P
use Rattle.form.specs.Kind.{fault_by}
use Rattle.form.specs.Wrong.{near_of}
use Rattle.sentence.specs.Sentence as S
use Rattle.kind_pir_port.specs.Command.{pirpr_row}
use Rattle.kind_pir_port.specs.Reply.{pirpa_row}
use Rattle.kind_pir_port.proofs.Laws.{lawful-pirpa, lawful-pirpr}
use Rattle.kind_pir_datum.specs.Command.{pirtr_row}
use Rattle.kind_pir_datum.specs.Reply.{pirta_row}
use Rattle.kind_pir_datum.proofs.Laws.{lawful-pirta, lawful-pirtr}
use Rattle.kind_pir_masks.specs.Command.{pirsr_row}
use Rattle.kind_pir_masks.specs.Reply.{pirsa_row}
use Rattle.kind_pir_masks.proofs.Laws.{lawful-pirsa, lawful-pirsr}
use Rattle.kind_pir_code.specs.Command.{pirer_row}
use Rattle.kind_pir_code.specs.Reply.{pirea_row}
use Rattle.kind_pir_code.proofs.Laws.{lawful-pirea, lawful-pirer}
use Rattle.sentence_laws.proofs.KindLaws.{Maker, maker}
use Rattle.sentence_laws.proofs.Known.{known-pirea, known-pirer, known-pirpa, known-pirpr, known-pirsa, known-pirsr, known-pirta}
use Rattle.sentence_laws.proofs.Known.{known-pirtr}

pub pirpr : Maker "PIRPR" pirpr_row S.Pr
unfolding pirpr_row
pirpr =
    maker "PIRPR" pirpr_row S.Pr lawful-pirpr refl (lit≤ tt)
    ((lit< tt, lit< tt), ((lit< tt, lit< tt), ((lit< tt, lit< tt), ((lit< tt, lit< tt), ((lit< tt, lit< tt), tt))))) (lit≤ tt)
    (A.Maker P.Pr)
    known-pirpr (λ field. refl)

pub pirtr : Maker "PIRTR" pirtr_row S.Tr
unfolding pirtr_row
pirtr =
    maker "PIRTR" pirtr_row S.Tr lawful-pirtr refl (lit≤ tt)
    ((lit< tt, lit< tt), ((lit< tt, lit< tt), ((lit< tt, lit< tt), ((lit< tt, lit< tt), ((lit< tt, lit< tt), tt))))) (lit≤ tt)
    (A.Maker P.Tr)
    known-pirtr (λ field. refl)

pub pirsr : Maker "PIRSR" pirsr_row S.Sr
unfolding pirsr_row
pirsr =
    maker "PIRSR" pirsr_row S.Sr lawful-pirsr refl (lit≤ tt)
    ((lit< tt, lit< tt), ((lit< tt, lit< tt), ((lit< tt, lit< tt), ((lit< tt, lit< tt), ((lit< tt, lit< tt), tt))))) (lit≤ tt)
    (A.Maker P.Sr)
    known-pirsr (λ field. refl)

pub pirer : Maker "PIRER" pirer_row (λ v. S.Er)
unfolding pirer_row
pirer =
    maker "PIRER" pirer_row (λ v. S.Er) lawful-pirer refl (lit≤ tt)
    ((lit< tt, lit< tt), ((lit< tt, lit< tt), ((lit< tt, lit< tt), ((lit< tt, lit< tt), ((lit< tt, lit< tt), tt))))) (lit≤ tt)
    (A.Maker P.Er)
    known-pirer (λ field. refl)

pub pirpa : Maker "PIRPA" pirpa_row S.Pa
unfolding pirpa_row
pirpa =
    maker "PIRPA" pirpa_row S.Pa lawful-pirpa refl (lit≤ tt)
    ((lit< tt, lit< tt), ((lit< tt, lit< tt), ((lit< tt, lit< tt), ((lit< tt, lit< tt), ((lit< tt, lit< tt), tt))))) (lit≤ tt)
    (A.Maker P.Pa)
    known-pirpa (λ field. refl)

pub pirta : Maker "PIRTA" pirta_row S.Ta
unfolding pirta_row
pirta =
    maker "PIRTA" pirta_row S.Ta lawful-pirta refl (lit≤ tt)
    ((lit< tt, lit< tt), ((lit< tt, lit< tt), ((lit< tt, lit< tt), ((lit< tt, lit< tt), ((lit< tt, lit< tt), tt))))) (lit≤ tt)
    (A.Maker P.Ta)
    known-pirta (λ field. refl)

pub pirsa : Maker "PIRSA" pirsa_row S.Sa
unfolding pirsa_row
pirsa =
    maker "PIRSA" pirsa_row S.Sa lawful-pirsa refl (lit≤ tt)
    ((lit< tt, lit< tt), ((lit< tt, lit< tt), ((lit< tt, lit< tt), ((lit< tt, lit< tt), ((lit< tt, lit< tt), tt))))) (lit≤ tt)
    (A.Maker P.Sa)
    known-pirsa (λ field. refl)

pub pirea : Maker "PIREA" pirea_row S.Ea
unfolding pirea_row
pirea =
    maker "PIREA" pirea_row S.Ea lawful-pirea refl (lit≤ tt)
    ((lit< tt, lit< tt), ((lit< tt, lit< tt), ((lit< tt, lit< tt), ((lit< tt, lit< tt), ((lit< tt, lit< tt), tt))))) (lit≤ tt)
    (A.Maker P.Ea)
    known-pirea (λ field. refl)

-- The only PIRER there is.
pub pirer-good : fault_by pirer_row tt ≡ 0
unfolding fault_by pirer_row near_of
pirer-good = refl
