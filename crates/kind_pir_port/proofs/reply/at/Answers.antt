-- `at` meets its contract: each value is the one at its place.
use Rattle.kind_pir_port.specs.Reply.{pirpa_layout, pirpa_row}
use Rattle.kind_pir_port.proofs.reply.at.Goals as goal

pub returns : goal.returns
unfolding pirpa_layout pirpa_row
returns c =
    rw (c.whole_at.ensures, c.whole_at-2.ensures, c.whole_at-3.ensures)
    (rw c.whole_at-4.ensures)
