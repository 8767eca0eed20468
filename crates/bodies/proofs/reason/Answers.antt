-- The three ways out, in their order.
use mathlib.Core.Path.{◌∙◌, sym}
use Rattle.std.proofs.Common.{rules, tests}
use Rattle.std.proofs.lemmas.Iterator.{YieldsList-from_slice}
use Rattle.std.proofs.lemmas.Iterator.Search.{position_from_yields_List}
use Rattle.bodies.proofs.Laws.{may_not_stand, why-empty, why-found, why-long, why-other}
use Rattle.bodies.proofs.reason.Goals as goal

pub returns-then-is_empty : goal.returns-then-is_empty
returns-then-is_empty c = let y = c.if-is_empty.ensures in why-empty _ (sym y)

pub returns-then-s-gt76 : goal.returns-then-s-gt76
returns-then-s-gt76 c = let y = c.if-is_empty.ensures in why-long _ (sym y) c.if-s-gt76.true

pub returns : goal.returns
returns c =
    let y = c.if-is_empty.ensures in
    let e = position_from_yields_List may_not_stand _ _ c.position.result c.position.ensures.ran (YieldsList-from_slice c.args.s.now (cc)) (λ x b q k. search (rules, tests)) in
    why-found c.args.s.now _ (λ i w k. search rules) e c.map.ensures.cases
    ∙ why-other _ (sym y) c.if-s-gt76.false
