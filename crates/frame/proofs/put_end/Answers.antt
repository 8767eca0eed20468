-- The star, the two digits, CR and LF.
use Rattle.put.proofs.Chain.{◌⨾◌}
use Rattle.frame.proofs.Sealing.{high_half}
use Rattle.frame.proofs.put_end.Goals as goal

pub returns : goal.returns
returns c =
    c.put-a0.ensures ⨾ ((rw (c.hex_of.ensures, high_half c.args.x c.ranges.x.fits) at c.put-a1.ensures)
    ⨾ ((rw c.hex_of-2.ensures at c.put-a2.ensures) ⨾ c.put_bytes.ensures))
