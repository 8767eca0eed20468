-- `twelve_from` meets its contract: the first wrong field is found from the last on.
use Rattle.kind_gsa.specs.Row.{twelve_of}
use Rattle.kind_gsa.proofs.twelve_from.Goals as goal

pub returns : goal.returns
unfolding twelve_of
returns c =
    rw (← c.near-w14.ensures, ← c.near-w13.ensures, ← c.near-w12.ensures, ← c.near-w11.ensures, ← c.near-w10.ensures)
    (rw (← c.near-w9.ensures, ← c.near-w8.ensures, ← c.near-w7.ensures, ← c.near-w6.ensures, ← c.near-w5.ensures)
    (rw (← c.near-w4.ensures, ← c.near-w3.ensures, c.into.ensures, c.into-2.ensures, c.into-3.ensures)
    (rw (c.into-4.ensures, c.into-5.ensures, c.into-6.ensures, c.into-7.ensures, c.into-8.ensures, c.into-9.ensures)
    (rw (c.into-10.ensures, c.into-11.ensures, c.into-12.ensures)))))
