-- The place of the first that is out of its range, or none.
use mathlib.Core.Path.{◌≡◌}
use borrow.Author.Tests.{tests}
use lib.ListN.{length}
use Rattle.std.proofs.Common.{rules}
use Rattle.std.proofs.lemmas.Iterator.{IsFirst-from_position, YieldsList-from_slice}
use Rattle.numbers.proofs.Laying.{length-mapped}
use Rattle.kind_gsa.proofs.Satellites.{all-right, first-wrong, IsRight, IsWrong}
use Rattle.kind_gsa.proofs.satellites_wrong.Goals as goal

pub returns-in-Some : goal.returns-in-Some
returns-in-Some c =
    let full : length c.args.s ≡ 12 = search (rules, length-mapped) in
    first-wrong c.args.s full c.args.rest c.in-Some.i
    (IsFirst-from_position _ _ _ IsWrong IsRight c.in-Some.ensures.ran (YieldsList-from_slice c.args.s cc)
    (λ x q k. search (rules, tests)) (λ x q k. search (rules, tests)))

pub returns-in-None : goal.returns-in-None
returns-in-None c =
    let full : length c.args.s ≡ 12 = search (rules, length-mapped) in
    all-right c.args.s full c.args.rest
    (IsFirst-from_position _ _ _ IsWrong IsRight c.in-None.ensures.ran (YieldsList-from_slice c.args.s cc)
    (λ x q k. search (rules, tests)) (λ x q k. search (rules, tests)))
