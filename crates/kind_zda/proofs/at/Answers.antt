-- `at` meets its contract: each value is the one at its place.
use Rattle.kind_zda.specs.Row.{zda_layout, zda_row}
use Rattle.kind_zda.proofs.at.Goals as goal

pub returns : goal.returns
unfolding zda_layout zda_row
returns c = rw (c.at.ensures, c.at-2.ensures, c.at-3.ensures)
