-- `at` meets its contract: each value is the one at its place.
use Rattle.kind_rmc.specs.Row.{rmc_layout, rmc_row}
use Rattle.kind_rmc.proofs.at.Goals as goal

pub returns : goal.returns
unfolding rmc_layout rmc_row
returns c =
    rw c.at.ensures
    (rw c.whole_at.ensures
    (rw (c.at-2.ensures, c.at-3.ensures)
    (rw (c.at-4.ensures, c.at-5.ensures, c.at-6.ensures)
    (rw c.whole_at-2.ensures))))
