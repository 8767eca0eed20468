-- `find` meets its contract: std's `position` is the place of the definition, or none where the definition says the length.
use mathlib.Core.Path.{◌≡◌, ◌∙◌}
use mathlib.Core.Logic.{◌≢◌}
use borrow.Author.Tests.{tests}
use Rattle.std.proofs.Common.{rules}
use Rattle.std.proofs.lemmas.Iterator.{IsFirst-from_position, YieldsList-from_slice}
use Rattle.digits.proofs.Finding.{find-first}
use Rattle.digits.proofs.find.Goals as goal

pub returns : goal.returns
returns c =
    c.unwrap_or.ensures
    ∙ find-first c.args.b c.args.s.now c.position.result
    (IsFirst-from_position _ _ c.position.result (λ x. x ≡ c.args.b) (λ x. x ≢ c.args.b) c.position.ensures.ran
    (YieldsList-from_slice c.args.s.now cc) (λ x q k. search (rules, tests)) (λ x q k. search (rules, tests)))
