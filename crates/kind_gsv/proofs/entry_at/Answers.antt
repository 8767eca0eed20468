-- `entry_at` meets its contract: each value is the one at its place.
use Rattle.kind_gsv.proofs.entry_at.Goals as goal

pub returns : goal.returns
returns c =
    rw (c.whole_at.ensures, c.at.ensures, c.at-2.ensures)
    (rw c.at-3.ensures)
