-- `at` meets its contract: each value is the one at its place.
use Rattle.kind_gsv.specs.Row.{gsv_layout}
use Rattle.kind_gsv.proofs.at.Goals as goal

pub returns : goal.returns
unfolding gsv_layout
returns c =
    rw (c.whole_at.ensures, c.whole_at-2.ensures)
    (rw (c.whole_at-3.ensures, c.whole_at-4.ensures, c.four.ensures))
