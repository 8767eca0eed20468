-- Each way out of `step` is a case of the rule: the line's own refusal, another kind, a fault as a line of its group, or one more line.
use mathlib.Core.Path.{◌∙◌, ◌≡◌, ap, ap₂, refl, sym}
use mathlib.Core.List.{List}
use lib.IntN.{ℤ, pos}
use lib.ListN.{replicate}
use Rattle.numbers.specs.Numbers.{talker_of}
use Rattle.sentence.specs.Lines.{read_line}
use Rattle.sentence.specs.Sentence as S
use Rattle.sentence_laws.proofs.Told.{line-gsv, line-kind, line_refused}
use Rattle.sky_read.specs.Steps.{seen_of}
use Rattle.sky_read.proofs.SoundLaws.{sound}
use Rattle.sky_read.proofs.StepLaws.{rule-other, rule-refused, steps-seven, steps-six, steps-stop, steps-taken}
use Rattle.sky_read.proofs.step.Goals.{After-at-gsv}
use Rattle.sky_read.proofs.step.Goals as goal

-- The numbers that are lent to the line's reader.
abbrev zeros : List ℤ
zeros = replicate 33 (pos 0)

-- The record and its talker are what the line was read to.
gsv-is : (c : After-at-gsv) → read_line c.args.line.now ≡ S.Gsv c.talker_of-talker.result c.at-gsv.result
gsv-is c =
    line-gsv c.args.line.now zeros refl c.read-told.result _ (c.read-told.ensures.value, c.read-told.ensures.numbers_after) c.if-told-ne0.false c.if-told-ne4.false
    ∙ ap₂ S.Gsv (sym (c.talker_of-talker.ensures ∙ ap talker_of c.whole_at.ensures)) (sym c.at-gsv.ensures)

pub returns-then-told-ne0 : goal.returns-then-told-ne0
returns-then-told-ne0 c =
    steps-stop c.args.head c.args.k c.args.line.now c.args.seen.now c.args.seen.now refl _
    (λ es i. rule-refused (seen_of c.args.head es) c.args.k c.args.line.now _ _
    (line_refused c.args.line.now zeros refl c.read-told.result _ (c.read-told.ensures.value, c.read-told.ensures.numbers_after) c.if-told-ne0.true))

pub returns-then-told-ne4 : goal.returns-then-told-ne4
returns-then-told-ne4 c =
    let kind = line-kind c.args.line.now zeros refl c.read-told.result _ (c.read-told.ensures.value, c.read-told.ensures.numbers_after) c.if-told-ne0.false in
    steps-stop c.args.head c.args.k c.args.line.now c.args.seen.now c.args.seen.now refl _
    (λ es i. rule-other (seen_of c.args.head es) c.args.k c.args.line.now kind.1 (λ q. c.if-told-ne4.true (kind.0 ∙ q)))

pub follows-follows-requires : goal.follows-follows-requires
follows-follows-requires c = sound c.args.line.now _ c.at-gsv.result (gsv-is c)

pub in_line-repeats-requires : goal.in_line-repeats-requires
in_line-repeats-requires c =
    (sound c.args.line.now _ c.at-gsv.result (gsv-is (goal.at.in_line-repeats-requires c).After-at-gsv), c.requires)

pub returns-then-not-follows : goal.returns-then-not-follows
returns-then-not-follows c =
    steps-six c.args.head c.args.k c.args.line.now c.args.seen.now c.in_line-repeats.new.seen c.in_line-repeats.ensures.kept _ c.at-gsv.result
    (gsv-is (goal.at.returns-then-not-follows c).After-at-gsv) c.follows-follows.result c.in_line-repeats.result
    c.follows-follows.ensures c.in_line-repeats.ensures c.if-not-follows.true

pub returns-then-repeats : goal.returns-then-repeats
returns-then-repeats c =
    steps-seven c.args.head c.args.k c.args.line.now c.args.seen.now c.in_line-repeats.new.seen c.in_line-repeats.ensures.kept _ c.at-gsv.result
    (gsv-is (goal.at.returns-then-repeats c).After-at-gsv) c.follows-follows.result c.in_line-repeats.result
    c.follows-follows.ensures c.in_line-repeats.ensures c.if-not-follows.false c.if-repeats.true

pub returns : goal.returns
returns c =
    steps-taken c.args.head c.args.k c.args.line.now c.args.seen.now c.in_line-repeats.new.seen c.in_line-repeats.ensures.kept _
    c.at-gsv.result (gsv-is (goal.at.returns c).After-at-gsv) c.follows-follows.result c.in_line-repeats.result
    c.follows-follows.ensures c.in_line-repeats.ensures c.if-not-follows.false c.if-repeats.false
