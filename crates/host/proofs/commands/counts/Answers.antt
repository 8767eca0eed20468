-- Numbers that say no settings are refused; else the counts are those of the settings that they say.
use mathlib.Core.Path.{sym, ◌∙◌}
use Rattle.host.specs.Command.{counts_at}
use Rattle.host.proofs.commands.counts.Goals as goal

pub returns-then-not-are_said : goal.returns-then-not-are_said
unfolding counts_at
returns-then-not-are_said c = rw (← c.are_said.ensures, c.if-not-are_said.true)

pub returns : goal.returns
unfolding counts_at
returns c =
    let e = sym c.are_said.ensures ∙ c.if-not-are_said.false in
    c.counts.ensures ∙ rw (c.at.ensures, e)
