-- `at` meets its contract: each value is the one at its place.
use Rattle.kind_pir_masks.specs.Reply.{pirsa_layout, pirsa_row}
use Rattle.kind_pir_masks.proofs.reply.at.Goals as goal

pub returns : goal.returns
unfolding pirsa_layout pirsa_row
returns c = rw (c.whole_at.ensures, c.whole_at-2.ensures)
