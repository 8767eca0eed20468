-- The tests in their order, each by its law; then the line.
use mathlib.Core.Path.{sym, ◌∙◌, ap, subst}
use Rattle.receiver.specs.declared.Port.{Port}
use Rattle.receiver.specs.Command.{Outcome, Does}
use Rattle.receiver.proofs.DoesLaws.{does-refuse}
use Rattle.receiver.proofs.StepLaws.{five-for-port, five-for-setting, then-ten, then-line}
use Rattle.receiver.proofs.step.Goals.{then-arrival-ge2-via-then-arrival-ge2, then-arrival-ge2-via-else-arrival-ge2+then-not-are_good}
use Rattle.receiver.proofs.step.Goals as goal

pub returns-then-arrival-ge2 : goal.returns-then-arrival-ge2
returns-then-arrival-ge2 c =
    does-refuse c.args.s _ c.args.out.now c.refuse.result 5 0 0 c.refuse.ensures
    (elim c.then-arrival-ge2.branch [
      | then-arrival-ge2-via-then-arrival-ge2 w ↦ five-for-port c.args.s c.args.arrival c.args.line.now w.if-arrival-ge2.true
      | then-arrival-ge2-via-else-arrival-ge2+then-not-are_good w ↦
          five-for-setting c.args.s c.args.arrival c.args.line.now (sym w.are_good.ensures ∙ w.if-not-are_good.true)
    ])

pub returns-then-port_of-ne4 : goal.returns-then-port_of-ne4
returns-then-port_of-ne4 c =
    does-refuse c.args.s _ c.args.out.now c.refuse-then-port_of-ne4.result 10 1 0 c.refuse-then-port_of-ne4.ensures
    (then-ten c.args.s c.args.arrival c.args.line.now c.if-arrival-ge2.false (sym c.are_good.ensures ∙ c.if-not-are_good.false)
    (λ e. c.if-port_of-ne4.true (ap (λ (p : Port). p.protocol) c.port_of.ensures ∙ e)))

pub returns : goal.returns
returns c =
    subst (λ (o : Outcome). Does c.args.s o c.args.out.now c.take_line.result c.take_line.new.out)
    (sym (then-line c.args.s c.args.arrival c.args.line.now c.if-arrival-ge2.false (sym c.are_good.ensures ∙ c.if-not-are_good.false)
    (sym (ap (λ (p : Port). p.protocol) c.port_of.ensures) ∙ c.if-port_of-ne4.false))) c.take_line.ensures
