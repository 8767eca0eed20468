use mathlib.Core.Path.{◌∙◌, sym}
use Rattle.std.proofs.Common.{rules, tests}
use Rattle.std.proofs.lemmas.Iterator.{YieldsList-from_slice}
use Rattle.std.proofs.lemmas.Iterator.Adapters.{position_from-zero}
use Rattle.std.proofs.lemmas.Iterator.Search.{position_from_yields_List}
use Rattle.std.proofs.lemmas.Option.{MatchOption-at_none, MatchOption-at_some}
use Rattle.line_flaw.proofs.Laws.{forbidden-at, is_forbidden}
use Rattle.line_flaw.proofs.forbidden_in.Goals as goal

pub returns-in-Some : goal.returns-in-Some
returns-in-Some c =
    let e = position_from_yields_List is_forbidden _ _ _ c.in-Some.ensures.ran (YieldsList-from_slice c.args.s.now (cc)) (λ x b q k. search (rules, tests))
    ∙ position_from-zero is_forbidden c.args.s.now in
    MatchOption-at_some _ _ _ (sym e) (forbidden-at 2 0 c.args.s.now)

pub returns-in-None : goal.returns-in-None
returns-in-None c =
    let e = position_from_yields_List is_forbidden _ _ _ c.in-None.ensures.ran (YieldsList-from_slice c.args.s.now (cc)) (λ x b q k. search (rules, tests))
    ∙ position_from-zero is_forbidden c.args.s.now in
    MatchOption-at_none _ _ (sym e) (forbidden-at 2 0 c.args.s.now)
