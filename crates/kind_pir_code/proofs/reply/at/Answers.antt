-- `at` meets its contract: each value is the one at its place.
use Rattle.kind_pir_code.specs.Reply.{pirea_layout, pirea_row}
use Rattle.kind_pir_code.proofs.reply.at.Goals as goal

pub returns : goal.returns
unfolding pirea_layout pirea_row
returns c = rw c.whole_at.ensures
