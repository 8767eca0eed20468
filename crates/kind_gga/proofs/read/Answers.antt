-- `read` meets its contract: the count decides, then each field's form.
use Rattle.form.proofs.Told.{tells-count, tells-fields}
use Rattle.kind_gga.specs.Row.{gga_row}
use Rattle.kind_gga.proofs.read.Goals as goal

pub returns-then-f-ne14 : goal.returns-then-f-ne14
unfolding gga_row
returns-then-f-ne14 c = tells-count _ _ _ _ _ c.refuse.ensures c.if-f-ne14.true

pub returns : goal.returns
unfolding gga_row
returns c =
    tells-fields _ _ _ _ _ _ c.gga_from.ensures c.if-f-ne14.false (rw c.fixed-station.ensures
    (rw (c.number-age.ensures, c.unit-m12.ensures, c.height-geoid.ensures, c.unit-m10.ensures, c.height-altitude.ensures)
    (rw (c.number-hdop.ensures, c.fixed-satellites.ensures, c.exact-quality.ensures, c.position-place.ensures, c.time-time.ensures)
    (rw (c.at.ensures.holds, c.at-2.ensures.holds, c.at-3.ensures.holds, c.at-4.ensures.holds, c.at-5.ensures.holds)
    (rw (c.at-6.ensures.holds, c.at-7.ensures.holds, c.at-8.ensures.holds, c.at-9.ensures.holds, c.at-10.ensures.holds)
    (rw (c.at-11.ensures.holds, c.at-12.ensures.holds, c.at-13.ensures.holds, c.at-14.ensures.holds)))))))
