-- `gga_from` meets its contract: the first wrong field is found from the last on, as the definition says; without one the record is made.
use Rattle.form.proofs.Told.{tells-right, tells-wrong}
use Rattle.kind_gga.specs.Row.{gga_row}
use Rattle.kind_gga.proofs.gga_from.Goals as goal

pub returns-then-w1-ne0 : goal.returns-then-w1-ne0
unfolding gga_row
returns-then-w1-ne0 c =
    tells-wrong _ _ _ _ c.near-w1.result c.refuse.ensures (rw (
      ← c.near-w14.ensures,
      ← c.near-w13.ensures,
      ← c.near-w12.ensures,
      ← c.near-w11.ensures,
      ← c.near-w10.ensures,
      ← c.near-w9.ensures,
      ← c.near-w8.ensures,
      ← c.near-w7.ensures,
      ← c.near-w6.ensures,
      ← c.near-w2.ensures,
      ← c.near-w1.ensures,
    )) c.if-w1-ne0.true

pub returns : goal.returns
unfolding gga_row
returns c =
    tells-right _ _ _ _ _ c.lay.ensures (rw (
      ← c.near-w14.ensures,
      ← c.near-w13.ensures,
      ← c.near-w12.ensures,
      ← c.near-w11.ensures,
      ← c.near-w10.ensures,
      ← c.near-w9.ensures,
      ← c.near-w8.ensures,
      ← c.near-w7.ensures,
      ← c.near-w6.ensures,
      ← c.near-w2.ensures,
      ← c.near-w1.ensures,
    ) c.if-w1-ne0.false) (rw (c.into.ensures, c.into-2.ensures, c.into-3.ensures, c.into-4.ensures, c.into-5.ensures)
    (rw (c.into-6.ensures, c.into-7.ensures, c.into-8.ensures)))
