-- `active_in` meets its contract: each satellite by its field.
use mathlib.Core.Path.{◌∙◌}
use Rattle.kind_gsa.proofs.active_in.Goals as goal

pub returns : goal.returns
returns c =
    c.twelve_from.ensures ∙ rw (c.fixed-a12.ensures, c.fixed-a11.ensures, c.fixed-a10.ensures)
    (rw (c.fixed-a9.ensures, c.fixed-a8.ensures, c.fixed-a7.ensures, c.fixed-a6.ensures, c.fixed-a5.ensures)
    (rw (c.fixed-a4.ensures, c.fixed-a3.ensures, c.fixed-a2.ensures, c.fixed-a1.ensures)
    (rw (c.at.ensures.holds, c.at-2.ensures.holds, c.at-3.ensures.holds, c.at-4.ensures.holds, c.at-5.ensures.holds)
    (rw (c.at-6.ensures.holds, c.at-7.ensures.holds, c.at-8.ensures.holds, c.at-9.ensures.holds, c.at-10.ensures.holds)
    (rw (c.at-11.ensures.holds, c.at-12.ensures.holds))))))
