-- `read` meets its contract: the count decides, then each field's form.
use Rattle.form.proofs.Told.{tells-count, tells-fields}
use Rattle.kind_vtg.specs.Row.{vtg_row}
use Rattle.kind_vtg.proofs.read.Goals as goal

pub returns-then-f-ne9 : goal.returns-then-f-ne9
unfolding vtg_row
returns-then-f-ne9 c = tells-count _ _ _ _ _ c.refuse.ensures c.if-f-ne9.true

pub returns : goal.returns
unfolding vtg_row
returns c =
    tells-fields _ _ _ _ _ _ c.vtg_from.ensures c.if-f-ne9.false (rw (
      c.letter-mode.ensures,
      c.unit-k8.ensures,
      c.number-metric.ensures,
      c.unit-n6.ensures,
      c.number-speed.ensures,
      c.unit-m4.ensures,
      c.below-magnetic.ensures,
      c.unit-t2.ensures,
      c.below-course.ensures,
      c.at.ensures.holds,
      c.at-2.ensures.holds,
      c.at-3.ensures.holds,
      c.at-4.ensures.holds,
      c.at-5.ensures.holds,
      c.at-6.ensures.holds,
      c.at-7.ensures.holds,
      c.at-8.ensures.holds,
      c.at-9.ensures.holds,
    ))
