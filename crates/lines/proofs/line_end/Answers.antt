use mathlib.Core.Path.{◌∙◌, sym}
use native.Mathlib.Omega.{arith}
use Prim.Native.Nat.{◌≤◌}
use lib.ListN.{length}
use Rattle.std.proofs.Common.{rules, tests}
use Rattle.std.proofs.lemmas.Iterator.{YieldsList-from_slice}
use Rattle.std.proofs.lemmas.Iterator.Adapters.{position_from-zero}
use Rattle.std.proofs.lemmas.Iterator.Search.{position_from_yields_List}
use Rattle.std.proofs.lemmas.Option.{MatchOption-at_none, MatchOption-at_some}
use Rattle.lines.proofs.CutLaws.{is_lf, part-rest, width-at, width-end}
use Rattle.lines.proofs.line_end.Goals as goal

pub returns-in_default : goal.returns-in_default
returns-in_default c =
    let h : length c.args.s.now ≤ c.args.at = grind (arith, c.in_default.ensures.lookup) in
    omega (arith, width-end c.args.s.now c.args.at h)

pub returns-in-Some-position : goal.returns-in-Some-position
returns-in-Some-position c =
    let d = c.in-Some.ensures.lookup.0.2 ∙ part-rest c.args.s.now c.args.at in
    let e = position_from_yields_List is_lf _ _ _ c.in-Some-position.ensures.ran (YieldsList-from_slice c.in-Some.rest.now (cc)) (λ x b q k. search (rules, tests))
    ∙ position_from-zero is_lf c.in-Some.rest.now in
    let w = MatchOption-at_some _ _ _ (sym e) (width-at 0 c.in-Some.rest.now) in
    rw (← d) (omega (arith, w))

pub returns-in-None : goal.returns-in-None
returns-in-None c =
    let d = c.in-Some.ensures.lookup.0.2 ∙ part-rest c.args.s.now c.args.at in
    let e = position_from_yields_List is_lf _ _ _ c.in-None.ensures.ran (YieldsList-from_slice c.in-Some.rest.now (cc)) (λ x b q k. search (rules, tests))
    ∙ position_from-zero is_lf c.in-Some.rest.now in
    let w = MatchOption-at_none _ _ (sym e) (width-at 0 c.in-Some.rest.now) in
    rw (← d) (omega (arith, w, c.in-Some.ensures.lookup.0.3))
