use native.Mathlib.Omega.{arith}
use Rattle.std.proofs.Common.{rules}
use Rattle.address.specs.declared.Pir.TheVariants.{Ea, Er, Pa, Pr, Sa, Sr, Ta, Tr}
use Rattle.address.proofs.Tables.{no_pir, orders}
use Rattle.address.proofs.pir_of.Goals as goal

pub returns-in-PIRPR : goal.returns-in-PIRPR
returns-in-PIRPR c = orders _ Pr (omega arith) (search rules)

pub returns-in-PIRTR : goal.returns-in-PIRTR
returns-in-PIRTR c = orders _ Tr (omega arith) (search rules)

pub returns-in-PIRSR : goal.returns-in-PIRSR
returns-in-PIRSR c = orders _ Sr (omega arith) (search rules)

pub returns-in-PIRER : goal.returns-in-PIRER
returns-in-PIRER c = orders _ Er (omega arith) (search rules)

pub returns-in-PIRPA : goal.returns-in-PIRPA
returns-in-PIRPA c = orders _ Pa (omega arith) (search rules)

pub returns-in-PIRTA : goal.returns-in-PIRTA
returns-in-PIRTA c = orders _ Ta (omega arith) (search rules)

pub returns-in-PIRSA : goal.returns-in-PIRSA
returns-in-PIRSA c = orders _ Sa (omega arith) (search rules)

pub returns-in-PIREA : goal.returns-in-PIREA
returns-in-PIREA c = orders _ Ea (omega arith) (search rules)

pub returns-in_default-2 : goal.returns-in_default-2
returns-in_default-2 c = no_pir _ (search rules)

pub returns-in_default-3 : goal.returns-in_default-3
returns-in_default-3 c = no_pir _ (search rules)

pub returns-in_default-4 : goal.returns-in_default-4
returns-in_default-4 c = no_pir _ (search rules)

pub returns-in_default-5 : goal.returns-in_default-5
returns-in_default-5 c = no_pir _ (search rules)
