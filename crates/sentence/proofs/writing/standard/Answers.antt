-- `standard` meets its contract: each type has its record and its writer.
use Rattle.sentence.proofs.writing.standard.Goals as goal

pub returns-in-Gga : goal.returns-in-Gga
returns-in-Gga c =
    rw (c.in-Gga.is, ← c.at.ensures) c.write.ensures

pub returns-in-Gll : goal.returns-in-Gll
returns-in-Gll c =
    rw (c.in-Gll.is, ← c.at-in-Gll.ensures) c.write-in-Gll.ensures

pub returns-in-Gsa : goal.returns-in-Gsa
returns-in-Gsa c =
    rw (c.in-Gsa.is, ← c.at-in-Gsa.ensures) c.write-in-Gsa.ensures

pub returns-in-Gsv : goal.returns-in-Gsv
returns-in-Gsv c =
    rw (c.in-Gsv.is, ← c.at-in-Gsv.ensures) c.write-in-Gsv.ensures

pub returns-in-Rmc : goal.returns-in-Rmc
returns-in-Rmc c =
    rw (c.in-Rmc.is, ← c.at-in-Rmc.ensures) c.write-in-Rmc.ensures

pub returns-in-Vtg : goal.returns-in-Vtg
returns-in-Vtg c =
    rw (c.in-Vtg.is, ← c.at-in-Vtg.ensures) c.write-in-Vtg.ensures

pub returns-in-Zda : goal.returns-in-Zda
returns-in-Zda c =
    rw (c.in-Zda.is, ← c.at-in-Zda.ensures) c.write-in-Zda.ensures
