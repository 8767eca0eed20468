-- `read` meets its contract: the count decides, then each field's form.
use Rattle.form.proofs.Told.{tells-count, tells-fields}
use Rattle.kind_rmc.specs.Row.{rmc_row}
use Rattle.kind_rmc.proofs.read.Goals as goal

pub returns-then-f-ne12 : goal.returns-then-f-ne12
unfolding rmc_row
returns-then-f-ne12 c = tells-count _ _ _ _ _ c.refuse.ensures c.if-f-ne12.true

pub returns : goal.returns
unfolding rmc_row
returns c =
    tells-fields _ _ _ _ _ _ c.rmc_from.ensures c.if-f-ne12.false (rw (
      c.letter-mode.ensures,
      c.variation-variation.ensures,
      c.six-date.ensures,
      c.below-course.ensures,
      c.number-speed.ensures,
      c.position-place.ensures,
      c.letter-status.ensures,
      c.time-time.ensures,
      c.at.ensures.holds,
      c.at-2.ensures.holds,
      c.at-3.ensures.holds,
      c.at-4.ensures.holds,
      c.at-5.ensures.holds,
      c.at-6.ensures.holds,
      c.at-7.ensures.holds,
      c.at-8.ensures.holds,
      c.at-9.ensures.holds,
      c.at-10.ensures.holds,
      c.at-11.ensures.holds,
      c.at-12.ensures.holds,
    ))
