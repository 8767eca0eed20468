-- Numbers that say no settings are refused; else the settings that they say take the step, and those after it are laid where it is
-- answered.
use mathlib.Core.Path.{sym, ◌∙◌}
use Rattle.host.proofs.Stepping.{short, answered, refuses}
use Rattle.host.proofs.commands.step.Goals as goal

pub returns-then-not-are_said : goal.returns-then-not-are_said
returns-then-not-are_said c =
    let e = sym c.are_said.ensures ∙ c.if-not-are_said.true in
    let said = short c.args.settings.now c.args.arrival c.args.line.now c.args.out.now e c.refuse.ensures in
    record {
      value = said.0;
      settings_after = said.1.0;
      out_after = said.1.1;
    }

pub returns-then-written-eq0 : goal.returns-then-written-eq0
returns-then-written-eq0 c =
    let e = sym c.are_said.ensures ∙ c.if-not-are_said.false in
    let said = answered c.args.settings.now c.args.arrival c.args.line.now c.args.out.now e (rw c.at.ensures at c.step-done.ensures)
    c.if-written-eq0.true c.lay.ensures.out_after in
    record {
      value = said.0;
      settings_after = said.1.0;
      out_after = said.1.1;
    }

pub returns-else-written-eq0 : goal.returns-else-written-eq0
returns-else-written-eq0 c =
    let e = sym c.are_said.ensures ∙ c.if-not-are_said.false in
    let said = refuses c.args.settings.now c.args.arrival c.args.line.now c.args.out.now e (rw c.at.ensures at c.step-done.ensures) c.if-written-eq0.false in
    record {
      value = said.0;
      settings_after = said.1.0;
      out_after = said.1.1;
    }
