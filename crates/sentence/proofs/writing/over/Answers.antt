-- `over` meets its contract: two of the eight have a GPS mask.
use Rattle.sentence.proofs.writing.over.Goals as goal

pub returns-in-Pr : goal.returns-in-Pr
returns-in-Pr c = rw c.in-Pr.is

pub returns-in-Tr : goal.returns-in-Tr
returns-in-Tr c = rw c.in-Tr.is

pub returns-in-Sr : goal.returns-in-Sr
returns-in-Sr c = rw (c.in-Sr.is, c.there_at.ensures, c.is_whole_at.ensures)

pub returns-in-Er : goal.returns-in-Er
returns-in-Er c = rw c.in-Er.is

pub returns-in-Pa : goal.returns-in-Pa
returns-in-Pa c = rw c.in-Pa.is

pub returns-in-Ta : goal.returns-in-Ta
returns-in-Ta c = rw c.in-Ta.is

pub returns-in-Sa : goal.returns-in-Sa
returns-in-Sa c = rw (c.in-Sa.is, c.is_whole_at-in-Sa.ensures)

pub returns-in-Ea : goal.returns-in-Ea
returns-in-Ea c = rw c.in-Ea.is
