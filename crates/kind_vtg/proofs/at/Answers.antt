-- `at` meets its contract: each value is the one at its place.
use Rattle.kind_vtg.specs.Row.{vtg_layout, vtg_row}
use Rattle.kind_vtg.proofs.at.Goals as goal

pub returns : goal.returns
unfolding vtg_layout vtg_row
returns c =
    rw (c.at.ensures, c.at-2.ensures)
    (rw (c.at-3.ensures, c.at-4.ensures, c.whole_at.ensures))
