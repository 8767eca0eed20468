-- `at` meets its contract: each value is the one at its place.
use Rattle.kind_gsa.specs.Row.{gsa_layout}
use Rattle.kind_gsa.proofs.at.Goals as goal

pub returns : goal.returns
unfolding gsa_layout
returns c =
    rw (c.whole_at.ensures, c.whole_at-2.ensures)
    (rw (c.twelve_at.ensures, c.at.ensures, c.at-2.ensures)
    (rw c.at-3.ensures))
