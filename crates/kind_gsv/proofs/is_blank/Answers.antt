-- Each value by itself.
use Rattle.std.proofs.Common.{rules}
use Rattle.kind_gsv.specs.Blank.{is_blank}
use Rattle.kind_gsv.proofs.is_blank.Goals as goal

pub returns-then-is_missing-2 : goal.returns-then-is_missing-2
unfolding is_blank
returns-then-is_missing-2 c = search rules

pub returns-else-is_missing-2 : goal.returns-else-is_missing-2
unfolding is_blank
returns-else-is_missing-2 c = search rules
