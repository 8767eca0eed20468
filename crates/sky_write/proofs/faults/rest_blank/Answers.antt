-- Each place that is not used is asked.
use mathlib.Core.Path.{◌∙◌}
use lib.ListN.{drop}
use Rattle.std.proofs.Common.{rules, tests}
use Rattle.std.proofs.lemmas.Iterator.{YieldsList-from_slice}
use Rattle.std.proofs.lemmas.Iterator.Adapters.{YieldsList-from_skip}
use Rattle.std.proofs.lemmas.Iterator.Search.{all_from_yields_List}
use Rattle.kind_gsv.specs.Blank.{is_blank}
use Rattle.sky_write.proofs.FaultLaws.{blank-all}
use Rattle.sky_write.proofs.faults.rest_blank.Goals as goal

pub returns : goal.returns
returns c =
    all_from_yields_List is_blank _ _ _ c.all.ensures.ran
    (YieldsList-from_skip c.args.r.count (YieldsList-from_slice c.args.r.entries (cc)) (cc)) (λ x b q k. search (rules, tests))
    ∙ blank-all (drop c.args.r.count c.args.r.entries)
