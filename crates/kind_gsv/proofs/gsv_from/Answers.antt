-- `gsv_from` meets its contract: the first wrong field decides; without one the record is made.
use mathlib.Core.Path.{refl}
use Rattle.form.proofs.Told.{tells-right, tells-wrong}
use Rattle.kind_gsv.specs.Row.{gsv_from, gsv_row}
use Rattle.kind_gsv.proofs.gsv_from.Goals as goal

pub returns-then-w1-ne0 : goal.returns-then-w1-ne0
unfolding gsv_from gsv_row
returns-then-w1-ne0 c =
    tells-wrong _ _ _ _ c.near-w1.result c.refuse.ensures (rw (
      ← c.near-w16.ensures,
      ← c.near-w12.ensures,
      ← c.near-w8.ensures,
      ← c.near-w4.ensures,
      ← c.near-w3.ensures,
      ← c.near-w2.ensures,
      ← c.near-w1.ensures,
    )) c.if-w1-ne0.true

pub returns : goal.returns
unfolding gsv_from gsv_row
returns c =
    tells-right _ _ _ _ _ c.lay.ensures (rw (
      ← c.near-w16.ensures,
      ← c.near-w12.ensures,
      ← c.near-w8.ensures,
      ← c.near-w4.ensures,
      ← c.near-w3.ensures,
      ← c.near-w2.ensures,
      ← c.near-w1.ensures,
    ) c.if-w1-ne0.false) refl
