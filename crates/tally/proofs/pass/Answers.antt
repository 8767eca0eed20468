use mathlib.Core.Path.{◌∙◌}
use Rattle.std.proofs.Common.{rules, tests}
use Rattle.std.proofs.lemmas.Iterator.{YieldsList-from_slice}
use Rattle.std.proofs.lemmas.Iterator.Consumers.{fold_from_yields_List}
use Rattle.tally.specs.Tally.{pass_one}
use Rattle.tally.proofs.Laws.{pass-fold}
use Rattle.tally.proofs.pass.Goals as goal

pub returns : goal.returns
returns c =
    fold_from_yields_List _ pass_one _ _ c.fold.ensures.ran (YieldsList-from_slice c.args.s.now (cc)) (λ a x b q k. search (rules, tests))
    ∙ pass-fold c.args.first c.args.s.now
