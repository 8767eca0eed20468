-- `at` meets its contract: each value is the one at its place.
use Rattle.kind_pir_masks.specs.Command.{pirsr_layout, pirsr_row}
use Rattle.kind_pir_masks.proofs.command.at.Goals as goal

pub returns : goal.returns
unfolding pirsr_layout pirsr_row
returns c = rw (c.at.ensures, c.at-2.ensures)
