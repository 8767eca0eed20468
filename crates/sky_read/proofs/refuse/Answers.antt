-- `refuse` meets its contract: the blank entry, thirty-six times.
use mathlib.Core.Path.{ap}
use lib.ListN.{replicate}
use Rattle.kind_gsv.specs.declared.Entry.{Entry}
use Rattle.std.specs.Prelude.{None}
use Rattle.sky_read.proofs.refuse.Goals as goal

pub returns : goal.returns
returns c = ap (λ (e : Entry). record {
  no = c.args.no;
  line = c.args.line;
  field = c.args.field;
  talker =
      None;
  table = record { count = 0; entries = replicate 36 e };
}) c.entry-none.ensures
