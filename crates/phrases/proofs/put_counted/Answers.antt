-- The number, then its word.
use Rattle.put.proofs.Chain.{◌⨾◌}
use Rattle.phrases.specs.Phrases.{counted}
use Rattle.phrases.proofs.put_counted.Goals as goal

pub returns : goal.returns
unfolding counted
returns c = (rw c.from.ensures at c.put_number-a.ensures) ⨾
    (rw c.pick.ensures at c.put_bytes.ensures)
