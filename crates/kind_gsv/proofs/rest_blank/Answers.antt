-- Each entry by itself.
use Rattle.kind_gsv.specs.Writing.{rest_blank}
use Rattle.kind_gsv.proofs.rest_blank.Goals as goal

pub returns : goal.returns
unfolding rest_blank
returns c =
    rw (c.is_blank.ensures, c.is_blank-2.ensures, c.is_blank-3.ensures, c.is_blank-4.ensures)
