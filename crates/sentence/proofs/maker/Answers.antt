-- `maker` meets its contract: each of its sentences has its reader.
use Rattle.address.specs.declared.Pir.TheVariants as P
use Rattle.numbers.proofs.Rows.{tells_as}
use Rattle.sentence.proofs.Telling.{maker-told}
use Rattle.sentence.proofs.maker.Goals as goal

pub returns-in-Pr : goal.returns-in-Pr
returns-in-Pr c =
    rw c.in-Pr.is (tells_as c.read.ensures (maker-told _ _ _ P.Pr))

pub returns-in-Tr : goal.returns-in-Tr
returns-in-Tr c =
    rw c.in-Tr.is (tells_as c.read-in-Tr.ensures (maker-told _ _ _ P.Tr))

pub returns-in-Sr : goal.returns-in-Sr
returns-in-Sr c =
    rw c.in-Sr.is (tells_as c.read-in-Sr.ensures (maker-told _ _ _ P.Sr))

pub returns-in-Er : goal.returns-in-Er
returns-in-Er c =
    rw c.in-Er.is (tells_as c.read-in-Er.ensures (maker-told _ _ _ P.Er))

pub returns-in-Pa : goal.returns-in-Pa
returns-in-Pa c =
    rw c.in-Pa.is (tells_as c.read-in-Pa.ensures (maker-told _ _ _ P.Pa))

pub returns-in-Ta : goal.returns-in-Ta
returns-in-Ta c =
    rw c.in-Ta.is (tells_as c.read-in-Ta.ensures (maker-told _ _ _ P.Ta))

pub returns-in-Sa : goal.returns-in-Sa
returns-in-Sa c =
    rw c.in-Sa.is (tells_as c.read-in-Sa.ensures (maker-told _ _ _ P.Sa))

pub returns-in-Ea : goal.returns-in-Ea
returns-in-Ea c =
    rw c.in-Ea.is (tells_as c.read-in-Ea.ensures (maker-told _ _ _ P.Ea))
