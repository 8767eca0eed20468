-- All numbers of the kind, and behind the talker's where it has one.
use Prim.Native.Nat.{ℕ}
use mathlib.Core.Path.{◌∙◌, ap}
use mathlib.Core.List.{List}
use lib.IntN.{ℤ}
use lib.ListN.{drop, take}
use Rattle.rows.proofs.Laws.{shown-maker, shown-talker}
use Rattle.rows.proofs.shown_of.Goals as goal

pub returns-then-kind-lt8 : goal.returns-then-kind-lt8
returns-then-kind-lt8 c =
    c.behind.ensures
    ∙ (ap (λ (l : List ℤ). drop 1 l) c.front-all.ensures
    ∙ (ap (λ (n : ℕ). drop 1 (take n c.args.numbers.now)) c.count_of.ensures
    ∙ shown-talker c.args.kind c.args.numbers.now c.if-kind-lt8.true))

pub returns : goal.returns
returns c =
    c.front-all.ensures
    ∙ (ap (λ (n : ℕ). take n c.args.numbers.now) c.count_of.ensures
    ∙ shown-maker c.args.kind c.args.numbers.now c.if-kind-lt8.false)
