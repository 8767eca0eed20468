use Rattle.std.proofs.Common.{◌≡◌, false, refl, rules, tests, true}
use Rattle.std.proofs.lemmas.Iterator.{index_from_first, IsFirst-from_position, YieldsList-from_slice}
use Rattle.exhibits_lists.proofs.Words.{width-on, width-stop}
use Rattle.exhibits_lists.specs.Lists.{is_blank, width}
use Rattle.exhibits_lists.proofs.width.Goals as goal

pub returns-clause-count : goal.returns-clause-count
unfolding width
returns-clause-count c =
    let s = c.args.s.now in
    let first = IsFirst-from_position _ _ _ (λ b. is_blank b ≡ true) (λ b. is_blank b ≡ false) c.position.ensures.ran (YieldsList-from_slice s cc) (λ x q k. search (rules, tests)) (λ x q k. search (rules, tests)) in
    let all = index_from_first width (λ b. is_blank b ≡ true) (λ b. is_blank b ≡ false) refl (λ x xs. width-stop x xs) (λ x xs. width-on x xs) s _ first in
    cc
