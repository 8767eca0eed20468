-- `at` meets its contract: each value is the one at its place.
use Rattle.kind_gll.specs.Row.{gll_layout, gll_row}
use Rattle.kind_gll.proofs.at.Goals as goal

pub returns : goal.returns
unfolding gll_layout gll_row
returns c =
    rw (c.at.ensures, c.at-2.ensures, c.whole_at.ensures)
    (rw c.whole_at-2.ensures)
