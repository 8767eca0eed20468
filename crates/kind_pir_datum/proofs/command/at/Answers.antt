-- `at` meets its contract: each value is the one at its place.
use Rattle.kind_pir_datum.specs.Command.{pirtr_layout, pirtr_row}
use Rattle.kind_pir_datum.proofs.command.at.Goals as goal

pub returns : goal.returns
unfolding pirtr_layout pirtr_row
returns c = rw (c.at.ensures, c.at-2.ensures)
