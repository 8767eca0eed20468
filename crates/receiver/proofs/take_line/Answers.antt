-- What was told of the line is a refusal, one of the four commands, or another kind.
use mathlib.Core.Path.{◌∙◌, ap, refl, subst, sym}
use Rattle.sentence.specs.Sentence.{Sentence}
use Rattle.receiver.specs.Command.{Does, sentence_outcome}
use Rattle.receiver.proofs.DoesLaws.{does-refuse}
use Rattle.receiver.proofs.LineLaws.{outcome-other, outcome-refused}
use Rattle.sentence_laws.proofs.Told.{line_code, line-datum, line-masks, line-port}
use Rattle.sentence.specs.Sentence as S
use Rattle.receiver.proofs.take_line.Goals as goal

pub returns-then-told-ne0 : goal.returns-then-told-ne0
returns-then-told-ne0 c =
    does-refuse c.args.s _ c.args.out.now c.refuse.result _ 1 _ c.refuse.ensures
    (outcome-refused c.args.s c.args.arrival c.args.line.now _ refl c.read-told.result _ (c.read-told.ensures.value, c.read-told.ensures.numbers_after) c.if-told-ne0.true)

pub returns-in-8 : goal.returns-in-8
returns-in-8 c =
    subst (λ (x : Sentence). Does c.args.s (sentence_outcome c.args.s c.args.arrival x) c.args.out.now c.port.result c.port.new.out)
    (ap S.Pr c.at.ensures
    ∙ sym (line-port c.args.line.now _ refl c.read-told.result _ (c.read-told.ensures.value, c.read-told.ensures.numbers_after) c.if-told-ne0.false c.in-8.is)) c.port.ensures

pub returns-in-9 : goal.returns-in-9
returns-in-9 c =
    subst (λ (x : Sentence). Does c.args.s (sentence_outcome c.args.s c.args.arrival x) c.args.out.now c.place.result c.place.new.out)
    (ap S.Tr c.at-in-9.ensures
    ∙ sym (line-datum c.args.line.now _ refl c.read-told.result _ (c.read-told.ensures.value, c.read-told.ensures.numbers_after) c.if-told-ne0.false c.in-9.is)) c.place.ensures

pub returns-in-10 : goal.returns-in-10
returns-in-10 c =
    subst (λ (x : Sentence). Does c.args.s (sentence_outcome c.args.s c.args.arrival x) c.args.out.now c.satellites.result
    c.satellites.new.out) (ap S.Sr c.at-in-10.ensures
    ∙ sym (line-masks c.args.line.now _ refl c.read-told.result _ (c.read-told.ensures.value, c.read-told.ensures.numbers_after) c.if-told-ne0.false
    c.in-10.is)) c.satellites.ensures

pub returns-in-11 : goal.returns-in-11
returns-in-11 c =
    subst (λ (x : Sentence). Does c.args.s (sentence_outcome c.args.s c.args.arrival x) c.args.out.now c.test.result c.test.new.out)
    (sym (line_code c.args.line.now _ refl c.read-told.result _ (c.read-told.ensures.value, c.read-told.ensures.numbers_after) c.if-told-ne0.false c.in-11.is)) c.test.ensures

pub returns-in_default : goal.returns-in_default
returns-in_default c =
    does-refuse c.args.s _ c.args.out.now c.refuse-in_default.result 9 1 0 c.refuse-in_default.ensures
    (outcome-other c.args.s c.args.arrival c.args.line.now _ refl c.read-told.result _ (c.read-told.ensures.value, c.read-told.ensures.numbers_after) c.if-told-ne0.false
    c.in_default.in_default-own.rest)
