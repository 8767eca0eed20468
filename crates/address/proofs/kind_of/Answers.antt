use native.Mathlib.Omega.{arith}
use Rattle.std.proofs.Common.{rules}
use Rattle.address.specs.declared.Kind.TheVariants.{Gga, Gll, Gsa, Gsv, Rmc, Vtg, Zda}
use Rattle.address.proofs.Tables.{tells}
use Rattle.address.proofs.kind_of.Goals as goal

pub returns-in-GGA : goal.returns-in-GGA
returns-in-GGA c = tells _ Gga (omega arith) (search rules)

pub returns-in-GLL : goal.returns-in-GLL
returns-in-GLL c = tells _ Gll (omega arith) (search rules)

pub returns-in-GSA : goal.returns-in-GSA
returns-in-GSA c = tells _ Gsa (omega arith) (search rules)

pub returns-in-GSV : goal.returns-in-GSV
returns-in-GSV c = tells _ Gsv (omega arith) (search rules)

pub returns-in-RMC : goal.returns-in-RMC
returns-in-RMC c = tells _ Rmc (omega arith) (search rules)

pub returns-in-VTG : goal.returns-in-VTG
returns-in-VTG c = tells _ Vtg (omega arith) (search rules)

pub returns-in-ZDA : goal.returns-in-ZDA
returns-in-ZDA c = tells _ Zda (omega arith) (search rules)
