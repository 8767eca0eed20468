use Rattle.std.proofs.Common.{◌≡◌, false, refl, rules, tests, true}
use Rattle.std.proofs.lemmas.Iterator.{index_from_first, IsFirst-from_position, YieldsList-from_slice}
use Rattle.exhibits_lists.proofs.Words.{blanks-on, blanks-stop}
use Rattle.exhibits_lists.specs.Lists.{blanks, is_blank}
use Rattle.exhibits_lists.proofs.blanks.Goals as goal

pub returns-clause-count : goal.returns-clause-count
unfolding blanks
returns-clause-count c =
    let s = c.args.s.now in
    let first = IsFirst-from_position _ _ _ (λ b. is_blank b ≡ false) (λ b. is_blank b ≡ true) c.position.ensures.ran (YieldsList-from_slice s cc) (λ x q k. search (rules, tests)) (λ x q k. search (rules, tests)) in
    let all = index_from_first blanks (λ b. is_blank b ≡ false) (λ b. is_blank b ≡ true) refl (λ x xs. blanks-stop x xs) (λ x xs. blanks-on x xs) s _ first in
    cc
