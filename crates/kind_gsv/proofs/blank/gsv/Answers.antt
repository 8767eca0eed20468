-- `gsv` meets its contract: each entry is the blank one.
use Rattle.kind_gsv.proofs.blank.gsv.Goals as goal

pub returns : goal.returns
returns c = rw c.entry-none.ensures
