-- `at` meets its contract: each value is the one at its place.
use Rattle.kind_pir_port.specs.Command.{pirpr_layout, pirpr_row}
use Rattle.kind_pir_port.proofs.command.at.Goals as goal

pub returns : goal.returns
unfolding pirpr_layout pirpr_row
returns c =
    rw (c.at.ensures, c.at-2.ensures, c.at-3.ensures, c.at-4.ensures)
