-- The high half, then the low one.
use Rattle.put.proofs.Chain.{◌⨾◌}
use Rattle.frame.proofs.Sealing.{high_half}
use Rattle.reasons.proofs.put_pair.Goals as goal

pub returns : goal.returns
returns c =
    (rw (c.hex_of.ensures, high_half c.args.b c.ranges.b.fits) at c.put-a.ensures)
    ⨾ (rw c.hex_of-2.ensures at c.put.ensures)
