-- `standard` meets its contract: each type has its reader.
use Rattle.address.specs.declared.Kind.TheVariants as K
use Rattle.numbers.proofs.Rows.{tells_as}
use Rattle.sentence.proofs.Telling.{standard-told}
use Rattle.sentence.proofs.standard.Goals as goal

pub returns-in-Gga : goal.returns-in-Gga
returns-in-Gga c =
    rw c.in-Gga.is (tells_as c.read.ensures (standard-told _ _ _ _ K.Gga))

pub returns-in-Gll : goal.returns-in-Gll
returns-in-Gll c =
    rw c.in-Gll.is (tells_as c.read-in-Gll.ensures (standard-told _ _ _ _ K.Gll))

pub returns-in-Gsa : goal.returns-in-Gsa
returns-in-Gsa c =
    rw c.in-Gsa.is (tells_as c.read-in-Gsa.ensures (standard-told _ _ _ _ K.Gsa))

pub returns-in-Gsv : goal.returns-in-Gsv
returns-in-Gsv c =
    rw c.in-Gsv.is (tells_as c.read-in-Gsv.ensures (standard-told _ _ _ _ K.Gsv))

pub returns-in-Rmc : goal.returns-in-Rmc
returns-in-Rmc c =
    rw c.in-Rmc.is (tells_as c.read-in-Rmc.ensures (standard-told _ _ _ _ K.Rmc))

pub returns-in-Vtg : goal.returns-in-Vtg
returns-in-Vtg c =
    rw c.in-Vtg.is (tells_as c.read-in-Vtg.ensures (standard-told _ _ _ _ K.Vtg))

pub returns-in-Zda : goal.returns-in-Zda
returns-in-Zda c =
    rw c.in-Zda.is (tells_as c.read-in-Zda.ensures (standard-told _ _ _ _ K.Zda))
