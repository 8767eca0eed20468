-- `at` meets its contract: each value is the one at its place.
use Rattle.kind_gga.specs.Row.{gga_layout, gga_row}
use Rattle.kind_gga.proofs.at.Goals as goal

pub returns : goal.returns
unfolding gga_layout gga_row
returns c =
    rw c.at.ensures
    (rw c.at-2.ensures
    (rw c.whole_at.ensures
    (rw (c.at-3.ensures, c.at-4.ensures)
    (rw (c.at-5.ensures, c.at-6.ensures, c.at-7.ensures)
    (rw c.at-8.ensures)))))
